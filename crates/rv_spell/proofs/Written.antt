-- What each kind of expression is read as where its text stands: its parts are read, and the pieces between them are split into tokens.
use Rattle.std.proofs.Common.{◌≡◌, ◌<◌, ◌≤◌, ◌+◌, ◌-◌, ℕ, true, nat_le, List, [], ◌∷◌, ◌++◌, length, replicate, refl, sym, ap, ◌∙◌, subst, zero, suc, arith, append_assoc}
use Rattle.std.proofs.lemmas.List.Folds.{list_all-append}
use Rattle.std.specs.List.{list_all}
use Rattle.std.specs.declared.boxed.Box.{Box}
use Rattle.std.specs.declared.vec.Vec.{Vec}
use Rattle.std.specs.declared.alloc.Global.{Global}
use Rattle.std.specs.Box.{with_value}
use Rattle.lang_model.specs.declared.syntax.Place.{Place}
use Rattle.lang_model.specs.declared.syntax.Op2.{Op2}
use Rattle.lang_model.specs.declared.syntax.Base.{Base}
use Rattle.lang_model.specs.declared.syntax.Expr.{Expr, Ref, Call, Base as BaseCall, Inject, Pair, Minus, Turned, Chain}
use Rattle.lang_model.specs.declared.syntax.Link.{Link}
use Rattle.lang_model.specs.declared.token.Kind.TheVariants.{Base as BASE, Word, Sign}
use Rattle.lang_model.specs.declared.token.Token.{Token}
use Rattle.lang_model.specs.Limits.{nesting_limit}
use Rattle.lang_model.specs.Tokens.{is_allowed, behind, tokens_from}
use Rattle.lang_model.specs.BaseNames.{base_text, TakesOne, TakesTwo, TakesDomain, form_of}
use Rattle.lang_model.specs.Printing.{printed, rank, within}
use Rattle.lang_model.specs.Spelling.{Level, OrLevel, AndLevel, ProdLevel, UnaryLevel, PostLevel, PrimLevel, tighter, Spelled, named, called, based, based_twice, injected, paired, turned, negated, chained, alone, Listed, Linked}
use Rattle.lang_model.specs.Trees.{SameUpToPlaces}
use Rattle.rv_spell.proofs.Places.{SameArguments, SameLinks, same_names, same_calls, same_bases, same_injections, same_pairs, same_minus, same_turned, same_chains, no_arguments, one_argument, same_count, same_count_links}
use Rattle.rv_spell.specs.Printed.{printed_more_args, printed_all_args, printed_all_links}
use Rattle.rv_spell.specs.Again.{ends_names}
use Rattle.rv_tokens.proofs.Agreeing.{both}
use Rattle.rv_tokens.proofs.Naming.{IsName}
use Rattle.rv_spell.proofs.Pieces.{Lexes, token, then, nothing, open_lexes, close_lexes, bracket_lexes, unbracket_lexes, comma_lexes, minus_lexes, operator_ends, carets, behind_carets, carets_lex, carets_spell, past, name_lexes, base_lexes}

-- ---- levels
-- how tightly the expressions of a level hold together at least
abbrev pub level_rank : Level → ℕ
level_rank OrLevel = 0
level_rank AndLevel = 1
level_rank ProdLevel = 2
level_rank UnaryLevel = 3
level_rank PostLevel = 4
level_rank PrimLevel = 5

pub rank_bound : (l : Level) → level_rank l ≤ 5
rank_bound OrLevel = omega arith
rank_bound AndLevel = omega arith
rank_bound ProdLevel = omega arith
rank_bound UnaryLevel = omega arith
rank_bound PostLevel = omega arith
rank_bound PrimLevel = omega arith

-- an expression of a level is one of each looser level
pub looser_by : (n : ℕ) (l m : Level) {k : ℕ} {e : Expr} {tokens rest : List Token} → level_rank m + n ≡ level_rank l → Spelled l k e tokens rest → Spelled m k e tokens rest
looser_by zero OrLevel OrLevel h s = s
looser_by zero AndLevel AndLevel h s = s
looser_by zero ProdLevel ProdLevel h s = s
looser_by zero UnaryLevel UnaryLevel h s = s
looser_by zero PostLevel PostLevel h s = s
looser_by zero PrimLevel PrimLevel h s = s
looser_by zero _ _ h s = absurd (omega arith)
looser_by (suc n) l OrLevel h s = alone OrLevel _ _ _ _ (looser_by n l AndLevel (omega arith) s)
looser_by (suc n) l AndLevel h s = alone AndLevel _ _ _ _ (looser_by n l ProdLevel (omega arith) s)
looser_by (suc n) l ProdLevel h s = alone ProdLevel _ _ _ _ (looser_by n l UnaryLevel (omega arith) s)
looser_by (suc n) l UnaryLevel h s = alone UnaryLevel _ _ _ _ (looser_by n l PostLevel (omega arith) s)
looser_by (suc n) l PostLevel h s = alone PostLevel _ _ _ _ (looser_by n l PrimLevel (omega arith) s)
looser_by (suc n) l PrimLevel h s = absurd (omega (arith, rank_bound l))

pub looser : (l m : Level) {k : ℕ} {e : Expr} {tokens rest : List Token} → level_rank m ≤ level_rank l → Spelled l k e tokens rest → Spelled m k e tokens rest
looser l m h s = looser_by (level_rank l - level_rank m) l m (omega arith) s

-- ---- what a text is read as
-- From a place on the text is read as an expression of a level, where so many constructs are open, that is the same up to places.
pub record Read (l : Level) (k : ℕ) (e : Expr) (text : List ℕ) (at : Place) : Type 0 where
  pub found : Expr
  pub end : Place
  pub put : List Token → List Token
  pub same : SameUpToPlaces e found
  pub lexes : (left : List ℕ) → ends_names left ≡ true → Lexes at (text ++ left) put end left
  pub spells : (rest : List Token) → Spelled l k found (put rest) rest

-- its text is read at each depth up to this one
abbrev pub Stands : Level → ℕ → Expr → Type 0
Stands l d e = (k : ℕ) → k ≤ d → (at : Place) → Read l k e (printed e) at

-- the same of further arguments
pub record ReadMore (n k : ℕ) (es : List Expr) (at : Place) : Type 0 where
  pub found : List Expr
  pub end : Place
  pub put : List Token → List Token
  pub same : SameArguments es found
  pub lexes : (left : List ℕ) → ends_names left ≡ true → Lexes at (printed_more_args es ++ left) put end left
  pub spells : (rest : List Token) → Listed n k found (put rest) rest

-- and of links
pub record ReadLinks (l : Level) (k : ℕ) (xs : List Link) (at : Place) : Type 0 where
  pub found : List Link
  pub end : Place
  pub put : List Token → List Token
  pub same : SameLinks xs found
  pub lexes : (left : List ℕ) → ends_names left ≡ true → Lexes at (printed_all_links (level_rank l) xs ++ left) put end left
  pub spells : (rest : List Token) → Linked l k found (put rest) rest

pub all_allowed : (xs ys : List ℕ) → list_all is_allowed xs ≡ true → list_all is_allowed ys ≡ true → list_all is_allowed (xs ++ ys) ≡ true
all_allowed xs ys h k = list_all-append is_allowed xs ys ∙ both (list_all is_allowed xs) (list_all is_allowed ys) h k

-- ---- the pieces of a call
-- further arguments go on with no name
pub more_end : (es : List Expr) (left : List ℕ) → ends_names (printed_more_args es ++ 41 ∷ left) ≡ true
more_end [] left = refl
more_end (e ∷ es) left = refl

-- arguments in their parentheses
pub args_lex : (k : ℕ) (first : Expr) (more : List Expr) (at mid : Place) (f : Read OrLevel k first (printed first) (behind 40 at)) (q : List Token → List Token)
    → ((left : List ℕ) → ends_names left ≡ true → Lexes f.end (printed_more_args more ++ left) q mid left)
    → (left : List ℕ) → Lexes at ((40 ∷ (printed first ++ printed_more_args more) ++ 41 ∷ []) ++ left) (λ r. token at (Sign 40) (f.put (q (token mid (Sign 41) r)))) (behind 41 mid) left
args_lex k first more at mid f q m left =
    let inner = (printed first ++ printed_more_args more) ++ 41 ∷ [] in
    let tail = printed_more_args more ++ 41 ∷ left in
    then (token at (Sign 40)) (λ r. f.put (q (token mid (Sign 41) r))) at (behind 40 at) (behind 41 mid) (40 ∷ (inner ++ left)) (inner ++ left) left (open_lexes at (inner ++ left))
    (ap (tokens_from 0 (behind 40 at)) (append_assoc (printed first ++ printed_more_args more) (41 ∷ []) left ∙ append_assoc (printed first) (printed_more_args more) (41 ∷ left))
    ∙ then f.put (λ r. q (token mid (Sign 41) r)) (behind 40 at) f.end (behind 41 mid) (printed first ++ tail) tail left (f.lexes tail (more_end more left))
    (then q (token mid (Sign 41)) f.end mid (behind 41 mid) tail (41 ∷ left) left (m (41 ∷ left) refl) (close_lexes mid left)))

-- a word and what stands behind it in parentheses
pub headed : (word body : List ℕ) (at end : Place) (p q : List Token → List Token) (left : List ℕ) → Lexes at (word ++ (body ++ left)) p (past at word) (body ++ left) → Lexes (past at word) (body ++ left) q end left → Lexes at ((word ++ body) ++ left) (λ r. p (q r)) end left
headed word body at end p q left h k = ap (tokens_from 0 at) (append_assoc word body left) ∙ then p q at (past at word) end (word ++ (body ++ left)) (body ++ left) left h k

-- the same vector with as many others
abbrev pub args_as : (v : Vec Expr Global) (ws : List Expr) → length ws ≡ length v.items → Vec Expr Global
args_as v ws h = record { ptr = v.ptr; len = v.len; cap = v.cap; alloc = v.alloc; items = ws; ok = (v.ok.0 ∙ sym h, v.ok.1); small = v.small }

abbrev pub links_as : (v : Vec Link Global) (ws : List Link) → length ws ≡ length v.items → Vec Link Global
links_as v ws h = record { ptr = v.ptr; len = v.len; cap = v.cap; alloc = v.alloc; items = ws; ok = (v.ok.0 ∙ sym h, v.ok.1); small = v.small }

-- ---- each kind of expression
pub read_name : (k : ℕ) (at there : Place) (text : List ℕ) → IsName text → Read PrimLevel k (Ref there text) text at
read_name k at there text n = record {
  found = Ref at text;
  end = past at text;
  put = token at (Word text);
  same = same_names there at text;
  lexes = λ left ends. name_lexes text n at left ends;
  spells = λ rest. named k at text (token at (Word text) rest) rest refl;
}

-- a call: its name, and in parentheses the first argument and the further ones, each read where the one before ends
pub read_call : (k : ℕ) (at there : Place) (text : List ℕ) (args : Vec Expr Global) (first : Expr) (more : List Expr) → k < nesting_limit → args.items ≡ first ∷ more → IsName text
    → (f : Read OrLevel (suc k) first (printed first) (behind 40 (past at text))) → ReadMore 15 (suc k) more f.end → Read PrimLevel k (Call there text args) (text ++ (40 ∷ printed_all_args args.items ++ 41 ∷ [])) at
read_call k at there text args first more l q n f m =
    let same : SameArguments args.items (f.found ∷ m.found) = subst (λ es. SameArguments es (f.found ∷ m.found)) (sym q) (one_argument first f.found more m.found f.same m.same) in
    let others = args_as args (f.found ∷ m.found) (same_count args.items (f.found ∷ m.found) same) in
    let tail = λ (rest : List Token). m.put (token m.end (Sign 41) rest) in
    record {
      found = Call at text others;
      end = behind 41 m.end;
      put = λ rest. token at (Word text) (token (past at text) (Sign 40) (f.put (tail rest)));
      same = same_calls there at text args others same;
      lexes = λ left ends. subst (λ es. Lexes at ((text ++ (40 ∷ printed_all_args es ++ 41 ∷ [])) ++ left) (λ rest. token at (Word text) (token (past at text) (Sign 40) (f.put (tail rest)))) (behind 41 m.end) left) (sym q)
          (headed text (40 ∷ (printed first ++ printed_more_args more) ++ 41 ∷ []) at (behind 41 m.end) (token at (Word text)) (λ rest. token (past at text) (Sign 40) (f.put (tail rest))) left
          (name_lexes text n at _ refl) (args_lex (suc k) first more (past at text) m.end f m.put m.lexes left));
      spells = λ rest. called k at text others f.found m.found (token at (Word text) (token (past at text) (Sign 40) (f.put (tail rest)))) (token (past at text) (Sign 40) (f.put (tail rest))) (f.put (tail rest)) (tail rest) (token m.end (Sign 41) rest) rest l refl
          refl (past at text, refl) (f.spells (tail rest)) (m.spells (token m.end (Sign 41) rest)) (m.end, refl);
    }

-- a base call of one operand: the base name, and the operand in parentheses
pub read_one : (k : ℕ) (at there : Place) (base : Base) (args : Vec Expr Global) (e : Expr) → k < nesting_limit → form_of base ≡ TakesOne → args.items ≡ e ∷ []
    → Read OrLevel (suc k) e (printed e) (behind 40 (past at (base_text base))) → Read PrimLevel k (BaseCall there base args) (base_text base ++ (40 ∷ printed_all_args args.items ++ 41 ∷ [])) at
read_one k at there base args e l form q f =
    let same : SameArguments args.items (f.found ∷ []) = subst (λ es. SameArguments es (f.found ∷ [])) (sym q) (one_argument e f.found [] [] f.same no_arguments) in
    let others = args_as args (f.found ∷ []) (same_count args.items (f.found ∷ []) same) in
    let word = past at (base_text base) in
    record {
      found = BaseCall at base others;
      end = behind 41 f.end;
      put = λ rest. token at (BASE base) (token word (Sign 40) (f.put (token f.end (Sign 41) rest)));
      same = same_bases there at base args others same;
      lexes = λ left ends. subst (λ es. Lexes at ((base_text base ++ (40 ∷ printed_all_args es ++ 41 ∷ [])) ++ left) (λ rest. token at (BASE base) (token word (Sign 40) (f.put (token f.end (Sign 41) rest)))) (behind 41 f.end) left) (sym q)
          (headed (base_text base) (40 ∷ (printed e ++ []) ++ 41 ∷ []) at (behind 41 f.end) (token at (BASE base)) (λ rest. token word (Sign 40) (f.put (token f.end (Sign 41) rest))) left
          (base_lexes base at _) (args_lex (suc k) e [] word f.end f (λ r. r) (λ left ends. nothing f.end left) left));
      spells = λ rest. based k at base others f.found (token at (BASE base) (token word (Sign 40) (f.put (token f.end (Sign 41) rest)))) (token word (Sign 40) (f.put (token f.end (Sign 41) rest))) (f.put (token f.end (Sign 41) rest)) (token f.end (Sign 41) rest) rest l form refl
          refl (word, refl) (f.spells (token f.end (Sign 41) rest)) (f.end, refl);
    }

-- a second argument behind its comma
pub second_lex : (k : ℕ) (e : Expr) (at : Place) (g : Read OrLevel k e (printed e) (behind 44 at)) (left : List ℕ) → ends_names left ≡ true → Lexes at ((44 ∷ printed e ++ []) ++ left) (λ r. token at (Sign 44) (g.put r)) g.end left
second_lex k e at g left ends =
    then (token at (Sign 44)) g.put at (behind 44 at) g.end (44 ∷ ((printed e ++ []) ++ left)) ((printed e ++ []) ++ left) left (comma_lexes at ((printed e ++ []) ++ left))
    (ap (tokens_from 0 (behind 44 at)) (append_assoc (printed e) [] left) ∙ g.lexes left ends)

-- a base call of two operands: the second is read behind the comma
pub read_two : (k : ℕ) (at there : Place) (base : Base) (args : Vec Expr Global) (e x : Expr) → k < nesting_limit → form_of base ≡ TakesTwo → args.items ≡ e ∷ x ∷ []
    → (f : Read OrLevel (suc k) e (printed e) (behind 40 (past at (base_text base)))) → Read OrLevel (suc k) x (printed x) (behind 44 f.end) → Read PrimLevel k (BaseCall there base args) (base_text base ++ (40 ∷ printed_all_args args.items ++ 41 ∷ [])) at
read_two k at there base args e x l form q f g =
    let same : SameArguments args.items (f.found ∷ g.found ∷ []) = subst (λ es. SameArguments es (f.found ∷ g.found ∷ [])) (sym q) (one_argument e f.found (x ∷ []) (g.found ∷ []) f.same (one_argument x g.found [] [] g.same no_arguments)) in
    let others = args_as args (f.found ∷ g.found ∷ []) (same_count args.items (f.found ∷ g.found ∷ []) same) in
    let word = past at (base_text base) in
    let last = λ (rest : List Token). g.put (token g.end (Sign 41) rest) in
    record {
      found = BaseCall at base others;
      end = behind 41 g.end;
      put = λ rest. token at (BASE base) (token word (Sign 40) (f.put (token f.end (Sign 44) (last rest))));
      same = same_bases there at base args others same;
      lexes = λ left ends. subst (λ es. Lexes at ((base_text base ++ (40 ∷ printed_all_args es ++ 41 ∷ [])) ++ left) (λ rest. token at (BASE base) (token word (Sign 40) (f.put (token f.end (Sign 44) (last rest))))) (behind 41 g.end) left) (sym q)
          (headed (base_text base) (40 ∷ (printed e ++ (44 ∷ printed x ++ [])) ++ 41 ∷ []) at (behind 41 g.end) (token at (BASE base)) (λ rest. token word (Sign 40) (f.put (token f.end (Sign 44) (last rest)))) left
          (base_lexes base at _) (args_lex (suc k) e (x ∷ []) word g.end f (λ r. token f.end (Sign 44) (g.put r)) (second_lex (suc k) x f.end g) left));
      spells = λ rest. based_twice k at base others f.found g.found (token at (BASE base) (token word (Sign 40) (f.put (token f.end (Sign 44) (last rest))))) (token word (Sign 40) (f.put (token f.end (Sign 44) (last rest)))) (f.put (token f.end (Sign 44) (last rest))) (token f.end (Sign 44) (last rest)) (last rest) (token g.end (Sign 41) rest) rest l form refl
          refl (word, refl) (f.spells (token f.end (Sign 44) (last rest))) (f.end, refl) (g.spells (token g.end (Sign 41) rest)) (g.end, refl);
    }

-- a domain operator, and the name of its domain in parentheses
pub read_injection : (k : ℕ) (at there : Place) (base : Base) (domain : List ℕ) → k < nesting_limit → form_of base ≡ TakesDomain → IsName domain → Read PrimLevel k (Inject there base domain) (base_text base ++ (40 ∷ domain ++ 41 ∷ [])) at
read_injection k at there base domain l form n =
    let word = past at (base_text base) in
    let name = behind 40 word in
    let end = past name domain in
    record {
      found = Inject at base domain;
      end = behind 41 end;
      put = λ rest. token at (BASE base) (token word (Sign 40) (token name (Word domain) (token end (Sign 41) rest)));
      same = same_injections there at base domain;
      lexes = λ left ends. headed (base_text base) (40 ∷ domain ++ 41 ∷ []) at (behind 41 end) (token at (BASE base)) (λ rest. token word (Sign 40) (token name (Word domain) (token end (Sign 41) rest))) left (base_lexes base at _)
          (then (token word (Sign 40)) (λ rest. token name (Word domain) (token end (Sign 41) rest)) word name (behind 41 end) (40 ∷ ((domain ++ 41 ∷ []) ++ left)) ((domain ++ 41 ∷ []) ++ left) left (open_lexes word _)
          (ap (tokens_from 0 name) (append_assoc domain (41 ∷ []) left) ∙ then (token name (Word domain)) (token end (Sign 41)) name end (behind 41 end) (domain ++ 41 ∷ left) (41 ∷ left) left (name_lexes domain n name (41 ∷ left) refl) (close_lexes end left)));
      spells = λ rest. injected k at base domain (token at (BASE base) (token word (Sign 40) (token name (Word domain) (token end (Sign 41) rest)))) (token word (Sign 40) (token name (Word domain) (token end (Sign 41) rest))) (token name (Word domain) (token end (Sign 41) rest)) (token end (Sign 41) rest) rest l form
          refl (word, refl) (name, refl) (end, refl);
    }

-- a pairing: both operands in brackets, and a comma between them
pub read_pair : (k : ℕ) (at there : Place) (left right : Box Expr Global) → k < nesting_limit → (f : Read OrLevel (suc k) left.value (printed left.value) (behind 91 at)) → Read OrLevel (suc k) right.value (printed right.value) (behind 44 f.end)
    → Read PrimLevel k (Pair there left right) (91 ∷ (printed left.value ++ (44 ∷ printed right.value ++ 93 ∷ []))) at
read_pair k at there left right l f g =
    let one = with_value left f.found in
    let two = with_value right g.found in
    let last = λ (rest : List Token). g.put (token g.end (Sign 93) rest) in
    let P = printed left.value in
    let Q = printed right.value in
    record {
      found = Pair at one two;
      end = behind 93 g.end;
      put = λ rest. token at (Sign 91) (f.put (token f.end (Sign 44) (last rest)));
      same = same_pairs there at left right one two f.same g.same;
      lexes = λ more ends.
          then (token at (Sign 91)) (λ rest. f.put (token f.end (Sign 44) (last rest))) at (behind 91 at) (behind 93 g.end) (91 ∷ ((P ++ (44 ∷ Q ++ 93 ∷ [])) ++ more)) ((P ++ (44 ∷ Q ++ 93 ∷ [])) ++ more) more (bracket_lexes at _)
          (ap (tokens_from 0 (behind 91 at)) (append_assoc P (44 ∷ Q ++ 93 ∷ []) more)
          ∙ then f.put (λ rest. token f.end (Sign 44) (last rest)) (behind 91 at) f.end (behind 93 g.end) (P ++ 44 ∷ ((Q ++ 93 ∷ []) ++ more)) (44 ∷ ((Q ++ 93 ∷ []) ++ more)) more (f.lexes (44 ∷ ((Q ++ 93 ∷ []) ++ more)) refl)
          (then (token f.end (Sign 44)) last f.end (behind 44 f.end) (behind 93 g.end) (44 ∷ ((Q ++ 93 ∷ []) ++ more)) ((Q ++ 93 ∷ []) ++ more) more (comma_lexes f.end _)
          (ap (tokens_from 0 (behind 44 f.end)) (append_assoc Q (93 ∷ []) more)
          ∙ then g.put (token g.end (Sign 93)) (behind 44 f.end) g.end (behind 93 g.end) (Q ++ 93 ∷ more) (93 ∷ more) more (g.lexes (93 ∷ more) refl) (unbracket_lexes g.end more))));
      spells = λ rest. paired k at one two (token at (Sign 91) (f.put (token f.end (Sign 44) (last rest)))) (f.put (token f.end (Sign 44) (last rest))) (token f.end (Sign 44) (last rest)) (last rest) (token g.end (Sign 93) rest) rest l
          refl (f.spells (token f.end (Sign 44) (last rest))) (f.end, refl) (g.spells (token g.end (Sign 93) rest)) (g.end, refl);
    }

-- an operand with signs ^ behind it, which go on with no name
pub read_turned : (k n : ℕ) (at there : Place) (of : Box Expr Global) (text : List ℕ) → Read PrimLevel k of.value text at → Read PostLevel k (Turned there of (suc n)) (text ++ replicate (suc n) 94) at
read_turned k n at there of text f =
    let other = with_value of f.found in
    record {
      found = Turned f.end other (suc n);
      end = behind_carets (suc n) f.end;
      put = λ rest. f.put (carets (suc n) f.end rest);
      same = same_turned there f.end of other (suc n) f.same;
      lexes = λ left ends. ap (tokens_from 0 at) (append_assoc text (replicate (suc n) 94) left)
          ∙ then f.put (carets (suc n) f.end) at f.end (behind_carets (suc n) f.end) (text ++ (replicate (suc n) 94 ++ left)) (replicate (suc n) 94 ++ left) left (f.lexes (replicate (suc n) 94 ++ left) refl) (carets_lex (suc n) f.end left);
      spells = λ rest. turned k f.end other n (f.put (carets (suc n) f.end rest)) (carets (suc n) f.end rest) (carets n (behind 94 f.end) rest) rest (f.spells (carets (suc n) f.end rest)) refl (carets_spell n (behind 94 f.end) rest);
    }

pub read_minus : (k : ℕ) (at there : Place) (of : Box Expr Global) (text : List ℕ) → k < nesting_limit → Read UnaryLevel (suc k) of.value text (behind 45 at) → Read UnaryLevel k (Minus there of) (45 ∷ text) at
read_minus k at there of text l f =
    let other = with_value of f.found in
    record {
      found = Minus at other;
      end = f.end;
      put = λ rest. token at (Sign 45) (f.put rest);
      same = same_minus there at of other f.same;
      lexes = λ left ends. then (token at (Sign 45)) f.put at (behind 45 at) f.end (45 ∷ (text ++ left)) (text ++ left) left (minus_lexes at (text ++ left)) (f.lexes left ends);
      spells = λ rest. negated k at other (token at (Sign 45) (f.put rest)) (f.put rest) rest l refl (f.spells rest);
    }

-- links go on with no name
pub links_end : (n : ℕ) (xs : List Link) (left : List ℕ) → 0 < length xs → ends_names (printed_all_links n xs ++ left) ≡ true
links_end n [] left h = absurd (omega arith)
links_end n (x ∷ xs) left h = operator_ends x.op ((within (nat_le (rank x.right) n) (printed x.right) ++ printed_all_links n xs) ++ left)

-- a chain: its first operand with the links behind it, which go on with no name
pub read_chain : (l : Level) (k : ℕ) (at : Place) (first : Box Expr Global) (links : Vec Link Global) (text : List ℕ) → 0 < length links.items → (f : Read (tighter l) k first.value text at) → ReadLinks l k links.items f.end
    → Read l k (Chain first links) (text ++ printed_all_links (level_rank l) links.items) at
read_chain l k at first links text h f m =
    let other = with_value first f.found in
    let others = links_as links m.found (same_count_links links.items m.found m.same) in
    record {
      found = Chain other others;
      end = m.end;
      put = λ rest. f.put (m.put rest);
      same = same_chains first other links others f.same m.same;
      lexes = λ left ends. ap (tokens_from 0 at) (append_assoc text (printed_all_links (level_rank l) links.items) left)
          ∙ then f.put m.put at f.end m.end (text ++ (printed_all_links (level_rank l) links.items ++ left)) (printed_all_links (level_rank l) links.items ++ left) left (f.lexes _ (links_end (level_rank l) links.items left h)) (m.lexes left ends);
      spells = λ rest. chained l k other others (f.put (m.put rest)) (m.put rest) rest (f.spells (m.put rest)) (subst (λ n. 0 < n) (sym (same_count_links links.items m.found m.same)) h) (m.spells rest);
    }

-- behind what goes on with no name, nor do further arguments and links
pub args_end : (es : List Expr) (left : List ℕ) → ends_names left ≡ true → ends_names (printed_more_args es ++ left) ≡ true
args_end [] left h = h
args_end (e ∷ es) left h = refl

pub further_end : (n : ℕ) (xs : List Link) (left : List ℕ) → ends_names left ≡ true → ends_names (printed_all_links n xs ++ left) ≡ true
further_end n [] left h = h
further_end n (x ∷ xs) left h = operator_ends x.op ((within (nat_le (rank x.right) n) (printed x.right) ++ printed_all_links n xs) ++ left)

abbrev pub link_as : Place → Op2 → Expr → Link
link_as at op right = record { at = at; op = op; right = right }

-- the same text, written otherwise
pub as_text : {l : Level} {k : ℕ} {e : Expr} (at : Place) (text other : List ℕ) → text ≡ other → Read l k e other at → Read l k e text at
as_text {l} {k} {e} at text other h r = subst (λ t. Read l k e t at) (sym h) r
