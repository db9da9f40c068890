-- A printed expression is read again as the same expression up to places.
-- 1. By induction on how an expression is spelled: its text has tokens that spell, on the level on which it holds together, an expression that is the same up to places (`Stands`), at each depth up to its own.
-- 2. An operand that holds together too loosely for its place was spelled in parentheses, where one more construct was open (`tight`); so its text in parentheses nests no deeper than it did.
-- 3. The names of the tokens are proper, since they are those of a text; so each name is split off again.
use Rattle.std.proofs.Common.{◌≡◌, ◌<◌, ◌≤◌, ◌⊎◌, inl, inr, ℕ, Bool, true, false, nat_le, nat_lt, List, [], ◌∷◌, ◌++◌, length, replicate, refl, sym, ap, ◌∙◌, subst, zero, suc, arith, append_assoc}
use Rattle.std.proofs.lemmas.Bool.{leb-true, leb-false, ltb-true, ltb-false}
use Rattle.std.specs.List.{list_all}
use Rattle.lang_model.specs.declared.syntax.Place.{Place}
use Rattle.lang_model.specs.declared.syntax.Op2.{Op2}
use Rattle.lang_model.specs.declared.syntax.Op2.TheVariants.{Or, And, Times, Under, Over}
use Rattle.lang_model.specs.declared.syntax.Expr.{Expr, Call, Base as BaseCall, Inject, Pair, Minus, Turned, Chain}
use Rattle.lang_model.specs.declared.syntax.Link.{Link}
use Rattle.lang_model.specs.declared.token.Kind.TheVariants.{Base as BASE, Word, Sign}
use Rattle.lang_model.specs.declared.token.Token.{Token}
use Rattle.lang_model.specs.Taken.{Carets}
use Rattle.lang_model.specs.Limits.{nesting_limit}
use Rattle.lang_model.specs.Tokens.{is_allowed, behind, tokens_from}
use Rattle.lang_model.specs.BaseNames.{base_text}
use Rattle.lang_model.specs.Printing.{printed, rank, within, sign_of, chain_rank}
use Rattle.lang_model.specs.Spelling.{Level, OrLevel, AndLevel, ProdLevel, UnaryLevel, PostLevel, PrimLevel, tighter, IsOperatorOf, Spelled, named, called, based, based_twice, injected, paired, enclosed, turned, negated, chained, alone, Listed, no_more, one_more, Linked, no_link, one_link}
use Rattle.rv_spell.proofs.Places.{no_arguments, one_argument, no_links, same_link}
use Rattle.rv_spell.specs.Printed.{printed_more_args, printed_all_args, rank_of_links, printed_all_links}
use Rattle.rv_tokens.proofs.Agreeing.{both}
use Rattle.rv_spell.proofs.Printed.{printed_call, printed_base, printed_inject, printed_pair, printed_minus, printed_turned, printed_chain, rank_call, rank_base, rank_pair, rank_minus, rank_turned, rank_chain}
use Rattle.rv_tokens.proofs.Naming.{AllNamed, named_first}
use Rattle.rv_spell.proofs.Pieces.{token, then, nothing, open_lexes, close_lexes, comma_lexes, operator_lexes, operator_allowed, carets_allowed, past, name_allowed, base_allowed}
use Rattle.rv_spell.proofs.Written.{level_rank, rank_bound, looser, Read, Stands, ReadMore, ReadLinks, all_allowed, read_name, read_call, read_one, read_two, read_injection, read_pair, read_turned, read_minus, read_chain, args_end, further_end, link_as, as_text}

-- ---- what is shown of an expression
-- An expression that was spelled on a level: the level on which it holds together, its text there, and that it was spelled in parentheses where that is looser.
pub record Reread (l : Level) (d : ℕ) (e : Expr) (rest : List Token) : Type 0 where
  pub names : AllNamed rest
  pub allowed : list_all is_allowed (printed e) ≡ true
  pub own : Level
  pub exact : level_rank own ≡ rank e
  pub plain : Stands own d e
  pub tight : (level_rank l ≤ rank e) ⊎ ((d < nesting_limit) × Stands own (suc d) e)

pub record RereadMore (n d : ℕ) (es : List Expr) (rest : List Token) : Type 0 where
  pub names : AllNamed rest
  pub allowed : list_all is_allowed (printed_more_args es) ≡ true
  pub plain : (k : ℕ) → k ≤ d → (at : Place) → ReadMore n k es at

pub record RereadLinks (l : Level) (d : ℕ) (xs : List Link) (rest : List Token) : Type 0 where
  pub names : AllNamed rest
  pub allowed : list_all is_allowed (printed_all_links (level_rank l) xs) ≡ true
  pub ranked : (0 < length xs) → rank_of_links xs ≡ level_rank l
  pub chains : (0 < length xs) → level_rank (tighter l) ≡ suc (level_rank l)
  pub plain : (k : ℕ) → k ≤ d → (at : Place) → ReadLinks l k xs at

-- ---- operands
-- a whole expression, as one of the loosest level
pub whole : (l : Level) (d k : ℕ) (e : Expr) (rest : List Token) → Reread l d e rest → k ≤ d → (at : Place) → Read OrLevel k e (printed e) at
whole l d k e rest r h at = let p = r.plain k h at in record {
  found = p.found;
  end = p.end;
  put = p.put;
  same = p.same;
  lexes = p.lexes;
  spells = λ rest'. looser r.own OrLevel (omega arith) (p.spells rest');
}

-- the text in parentheses
in_parens : (own l : Level) (k : ℕ) (e : Expr) (at : Place) → k < nesting_limit → Read own (suc k) e (printed e) (behind 40 at) → Read l k e (40 ∷ printed e ++ 41 ∷ []) at
in_parens own l k e at h p = record {
  found = p.found;
  end = behind 41 p.end;
  put = λ r. token at (Sign 40) (p.put (token p.end (Sign 41) r));
  same = p.same;
  lexes = λ left ends. then (token at (Sign 40)) (λ r. p.put (token p.end (Sign 41) r)) at (behind 40 at) (behind 41 p.end) (40 ∷ ((printed e ++ 41 ∷ []) ++ left)) ((printed e ++ 41 ∷ []) ++ left) left (open_lexes at ((printed e ++ 41 ∷ []) ++ left))
      (ap (tokens_from 0 (behind 40 at)) (append_assoc (printed e) (41 ∷ []) left)
      ∙ then p.put (token p.end (Sign 41)) (behind 40 at) p.end (behind 41 p.end) (printed e ++ 41 ∷ left) (41 ∷ left) left (p.lexes (41 ∷ left) refl) (close_lexes p.end left));
  spells = λ rest. looser PrimLevel l (rank_bound l) (enclosed k p.found (token at (Sign 40) (p.put (token p.end (Sign 41) rest))) (p.put (token p.end (Sign 41) rest)) (token p.end (Sign 41) rest) rest h (at, refl)
      (looser own OrLevel (omega arith) (p.spells (token p.end (Sign 41) rest))) (p.end, refl));
}

-- an operand of a level, in parentheses exactly where it holds together too loosely
operand : (m : Level) (d k : ℕ) (e : Expr) (rest : List Token) (needed : Bool) → Reread m d e rest → (needed ≡ true → rank e < level_rank m) → (needed ≡ false → level_rank m ≤ rank e) → k ≤ d → (at : Place) → Read m k e (within needed (printed e)) at
operand m d k e rest true r f g h at = by r.tight
  where
    by : (level_rank m ≤ rank e) ⊎ ((d < nesting_limit) × Stands r.own (suc d) e) → Read m k e (within true (printed e)) at
    by (inl t) = let s : rank e < level_rank m = f refl in absurd (omega (arith, t, s))
    by (inr t) = let l : d < nesting_limit = t.0 in in_parens r.own m k e at (omega arith) (t.1 (suc k) (omega arith) (behind 40 at))
operand m d k e rest false r f g h at = let p = r.plain k h at in record {
  found = p.found;
  end = p.end;
  put = p.put;
  same = p.same;
  lexes = p.lexes;
  spells = λ rest'. let s : level_rank m ≤ rank e = g refl in let x : level_rank r.own ≡ rank e = r.exact in looser r.own m (omega arith) (p.spells rest');
}

within_allowed : (needed : Bool) (text : List ℕ) → list_all is_allowed text ≡ true → list_all is_allowed (within needed text) ≡ true
within_allowed true text h = all_allowed text (41 ∷ []) h refl
within_allowed false text h = h

-- ---- the operators of a level
record OfLevel (l : Level) (op : Op2) : Type 0 where
  written : IsOperatorOf l op (sign_of op)
  ranked : chain_rank op ≡ level_rank l
  chains : level_rank (tighter l) ≡ suc (level_rank l)

of_level : (l : Level) (op : Op2) (sign : ℕ) → IsOperatorOf l op sign → OfLevel l op
of_level OrLevel Or sign h = record { written = refl; ranked = refl; chains = refl }
of_level AndLevel And sign h = record { written = refl; ranked = refl; chains = refl }
of_level ProdLevel Times sign h = record { written = refl; ranked = refl; chains = refl }
of_level ProdLevel Under sign h = record { written = refl; ranked = refl; chains = refl }
of_level ProdLevel Over sign h = record { written = refl; ranked = refl; chains = refl }
of_level _ _ sign h = absurd h

loosens : (l : Level) → level_rank l ≤ level_rank (tighter l)
loosens OrLevel = omega arith
loosens AndLevel = omega arith
loosens ProdLevel = omega arith
loosens UnaryLevel = omega arith
loosens PostLevel = omega arith
loosens PrimLevel = omega arith

loosened : (l : Level) (n : ℕ) (X : Type 0) → (level_rank (tighter l) ≤ n) ⊎ X → (level_rank l ≤ n) ⊎ X
loosened l n X (inl h) = inl (omega (arith, loosens l, h))
loosened l n X (inr x) = inr x

carets_named : (n : ℕ) (tokens rest : List Token) → Carets n tokens rest → AllNamed tokens → AllNamed rest
carets_named zero tokens rest s a = subst AllNamed (sym s) a
carets_named (suc n) tokens rest s a = carets_named n s.0 rest s.2 (named_first s.1.0 (Sign 94) tokens s.0 s.1.1 a).1

some_there : (n : ℕ) (X : Type 0) → n ≡ 0 → 0 < n → X
some_there n X e h = absurd (omega arith)

-- ---- the induction
mutual
  -- the text of an expression is read as the same up to places, by induction on how it was spelled: its parts are read,
  -- in parentheses where they hold together too loosely, and put together
  pub reread : {l : Level} {d : ℕ} {e : Expr} {tokens rest : List Token} → Spelled l d e tokens rest → AllNamed tokens → Reread l d e rest
  reread (named d at text tokens rest t) a =
      let n = named_first at (Word text) tokens rest t a in
      record { names = n.1; allowed = name_allowed text n.0; own = PrimLevel; exact = refl; plain = λ k h there. read_name k there at text n.0; tight = inl (omega arith) }
  reread (called d at text args first more tokens t1 t2 t3 t4 rest l q t opened s ls close) a =
      let n = named_first at (Word text) tokens t1 t a in
      let r = reread s (named_first opened.0 (Sign 40) t1 t2 opened.1 n.1).1 in
      let m = reread_more ls r.names in
      record {
        names = (named_first close.0 (Sign 41) t4 rest close.1 m.names).1;
        allowed = subst (λ z. list_all is_allowed z ≡ true) (sym (printed_call at text args ∙ ap (λ es. text ++ (40 ∷ printed_all_args es ++ 41 ∷ [])) q))
            (all_allowed text (40 ∷ (printed first ++ printed_more_args more) ++ 41 ∷ []) (name_allowed text n.0) (all_allowed (printed first ++ printed_more_args more) (41 ∷ []) (all_allowed (printed first) (printed_more_args more) r.allowed m.allowed) refl));
        own = PrimLevel;
        exact = sym (rank_call at text args);
        plain = λ k h there. let f = whole OrLevel (suc d) (suc k) first t3 r (omega arith) (behind 40 (past there text)) in
            as_text there (printed (Call at text args)) (text ++ (40 ∷ printed_all_args args.items ++ 41 ∷ [])) (printed_call at text args) (read_call k there at text args first more (omega arith) q n.0 f (m.plain (suc k) (omega arith) f.end));
        tight = inl (omega (arith, rank_call at text args));
      }
  reread (based d at base args e tokens t1 t2 t3 rest l form q t opened s close) a =
      let b = named_first at (BASE base) tokens t1 t a in
      let r = reread s (named_first opened.0 (Sign 40) t1 t2 opened.1 b.1).1 in
      record {
        names = (named_first close.0 (Sign 41) t3 rest close.1 r.names).1;
        allowed = subst (λ z. list_all is_allowed z ≡ true) (sym (printed_base at base args ∙ ap (λ es. base_text base ++ (40 ∷ printed_all_args es ++ 41 ∷ [])) q))
            (all_allowed (base_text base) (40 ∷ (printed e ++ []) ++ 41 ∷ []) (base_allowed base) (all_allowed (printed e ++ []) (41 ∷ []) (all_allowed (printed e) [] r.allowed refl) refl));
        own = PrimLevel;
        exact = sym (rank_base at base args);
        plain = λ k h there. as_text there (printed (BaseCall at base args)) (base_text base ++ (40 ∷ printed_all_args args.items ++ 41 ∷ [])) (printed_base at base args)
            (read_one k there at base args e (omega arith) form q (whole OrLevel (suc d) (suc k) e t3 r (omega arith) (behind 40 (past there (base_text base)))));
        tight = inl (omega (arith, rank_base at base args));
      }
  reread (based_twice d at base args e x tokens t1 t2 t3 t4 t5 rest l form q t opened s comma u close) a =
      let b = named_first at (BASE base) tokens t1 t a in
      let r = reread s (named_first opened.0 (Sign 40) t1 t2 opened.1 b.1).1 in
      let r' = reread u (named_first comma.0 (Sign 44) t3 t4 comma.1 r.names).1 in
      record {
        names = (named_first close.0 (Sign 41) t5 rest close.1 r'.names).1;
        allowed = subst (λ z. list_all is_allowed z ≡ true) (sym (printed_base at base args ∙ ap (λ es. base_text base ++ (40 ∷ printed_all_args es ++ 41 ∷ [])) q))
            (all_allowed (base_text base) (40 ∷ (printed e ++ (44 ∷ printed x ++ [])) ++ 41 ∷ []) (base_allowed base) (all_allowed (printed e ++ (44 ∷ printed x ++ [])) (41 ∷ []) (all_allowed (printed e) (44 ∷ printed x ++ []) r.allowed (all_allowed (printed x) [] r'.allowed refl)) refl));
        own = PrimLevel;
        exact = sym (rank_base at base args);
        plain = λ k h there. let f = whole OrLevel (suc d) (suc k) e t3 r (omega arith) (behind 40 (past there (base_text base))) in
            as_text there (printed (BaseCall at base args)) (base_text base ++ (40 ∷ printed_all_args args.items ++ 41 ∷ [])) (printed_base at base args)
            (read_two k there at base args e x (omega arith) form q f (whole OrLevel (suc d) (suc k) x t5 r' (omega arith) (behind 44 f.end)));
        tight = inl (omega (arith, rank_base at base args));
      }
  reread (injected d at base domain tokens t1 t2 t3 rest l form t opened name close) a =
      let b = named_first at (BASE base) tokens t1 t a in
      let n = named_first name.0 (Word domain) t2 t3 name.1 (named_first opened.0 (Sign 40) t1 t2 opened.1 b.1).1 in
      record {
        names = (named_first close.0 (Sign 41) t3 rest close.1 n.1).1;
        allowed = subst (λ z. list_all is_allowed z ≡ true) (sym (printed_inject at base domain)) (all_allowed (base_text base) (40 ∷ domain ++ 41 ∷ []) (base_allowed base) (all_allowed domain (41 ∷ []) (name_allowed domain n.0) refl));
        own = PrimLevel;
        exact = refl;
        plain = λ k h there. as_text there (printed (Inject at base domain)) (base_text base ++ (40 ∷ domain ++ 41 ∷ [])) (printed_inject at base domain) (read_injection k there at base domain (omega arith) form n.0);
        tight = inl (omega arith);
      }
  reread (paired d at left right tokens t1 t2 t3 t4 rest l t s comma u close) a =
      let r = reread s (named_first at (Sign 91) tokens t1 t a).1 in
      let r' = reread u (named_first comma.0 (Sign 44) t2 t3 comma.1 r.names).1 in
      record {
        names = (named_first close.0 (Sign 93) t4 rest close.1 r'.names).1;
        allowed = subst (λ z. list_all is_allowed z ≡ true) (sym (printed_pair at left right))
            (all_allowed (printed left.value) (44 ∷ printed right.value ++ 93 ∷ []) r.allowed (all_allowed (printed right.value) (93 ∷ []) r'.allowed refl));
        own = PrimLevel;
        exact = sym (rank_pair at left right);
        plain = λ k h there. let f = whole OrLevel (suc d) (suc k) left.value t2 r (omega arith) (behind 91 there) in
            as_text there (printed (Pair at left right)) (91 ∷ (printed left.value ++ (44 ∷ printed right.value ++ 93 ∷ []))) (printed_pair at left right)
            (read_pair k there at left right (omega arith) f (whole OrLevel (suc d) (suc k) right.value t4 r' (omega arith) (behind 44 f.end)));
        tight = inl (omega (arith, rank_pair at left right));
      }
  reread (enclosed d e tokens mid after rest l opened s close) a =
      let r = reread s (named_first opened.0 (Sign 40) tokens mid opened.1 a).1 in
      record { names = (named_first close.0 (Sign 41) after rest close.1 r.names).1; allowed = r.allowed; own = r.own; exact = r.exact; plain = λ k h there. r.plain k (omega arith) there; tight = inr (l, r.plain) }
  reread (turned d at of n tokens mid after rest s t cs) a =
      let r = reread s a in
      record {
        names = carets_named n after rest cs (named_first at (Sign 94) mid after t r.names).1;
        allowed = subst (λ z. list_all is_allowed z ≡ true) (sym (printed_turned at of (suc n)))
            (all_allowed (within (nat_lt (rank of.value) 5) (printed of.value)) (replicate (suc n) 94) (within_allowed (nat_lt (rank of.value) 5) (printed of.value) r.allowed) (carets_allowed (suc n)));
        own = PostLevel;
        exact = sym (rank_turned at of (suc n));
        plain = λ k h there. as_text there (printed (Turned at of (suc n))) (within (nat_lt (rank of.value) 5) (printed of.value) ++ replicate (suc n) 94) (printed_turned at of (suc n))
            (read_turned k n there at of (within (nat_lt (rank of.value) 5) (printed of.value)) (operand PrimLevel d k of.value mid (nat_lt (rank of.value) 5) r (ltb-true (rank of.value) 5) (ltb-false (rank of.value) 5) h there));
        tight = inl (omega (arith, rank_turned at of (suc n)));
      }
  reread (negated d at of tokens mid rest l t s) a =
      let r = reread s (named_first at (Sign 45) tokens mid t a).1 in
      record {
        names = r.names;
        allowed = subst (λ z. list_all is_allowed z ≡ true) (sym (printed_minus at of)) (within_allowed (nat_lt (rank of.value) 3) (printed of.value) r.allowed);
        own = UnaryLevel;
        exact = sym (rank_minus at of);
        plain = λ k h there. as_text there (printed (Minus at of)) (45 ∷ within (nat_lt (rank of.value) 3) (printed of.value)) (printed_minus at of)
            (read_minus k there at of (within (nat_lt (rank of.value) 3) (printed of.value)) (omega arith) (operand UnaryLevel (suc d) (suc k) of.value rest (nat_lt (rank of.value) 3) r (ltb-true (rank of.value) 3) (ltb-false (rank of.value) 3) (omega arith) (behind 45 there)));
        tight = inl (omega (arith, rank_minus at of));
      }
  reread (chained l d first links tokens mid rest s p ls) a =
      let r = reread s a in
      let m = reread_links ls r.names in
      let loose = level_rank l in
      let text = within (nat_le (rank first.value) loose) (printed first.value) in
      let e = printed_chain first links ∙ ap (λ n. within (nat_le (rank first.value) n) (printed first.value) ++ printed_all_links n links.items) (m.ranked p) in
      let c = m.chains p in
      record {
        names = m.names;
        allowed = subst (λ z. list_all is_allowed z ≡ true) (sym e) (all_allowed text (printed_all_links loose links.items) (within_allowed (nat_le (rank first.value) loose) (printed first.value) r.allowed) m.allowed);
        own = l;
        exact = sym (rank_chain first links ∙ m.ranked p);
        plain = λ k h there. let f = operand (tighter l) d k first.value mid (nat_le (rank first.value) loose) r (λ v. omega (arith, c, leb-true (rank first.value) loose v)) (λ v. omega (arith, c, leb-false (rank first.value) loose v)) h there in
            as_text there (printed (Chain first links)) (text ++ printed_all_links loose links.items) e (read_chain l k there first links text p f (m.plain k h f.end));
        tight = inl (omega (arith, rank_chain first links ∙ m.ranked p));
      }
  reread (alone l d e tokens rest s) a =
      let r = reread s a in
      record { names = r.names; allowed = r.allowed; own = r.own; exact = r.exact; plain = r.plain; tight = loosened l (rank e) ((d < nesting_limit) × Stands r.own (suc d) e) r.tight }

  -- so are further arguments, each behind its comma
  reread_more : {n d : ℕ} {es : List Expr} {tokens rest : List Token} → Listed n d es tokens rest → AllNamed tokens → RereadMore n d es rest
  reread_more (no_more n d tokens rest q) a = record {
    names = subst AllNamed (sym q) a;
    allowed = refl;
    plain = λ k h at. record { found = []; end = at; put = λ r. r; same = no_arguments; lexes = λ left ends. nothing at left; spells = λ rest'. no_more n k rest' rest' refl };
  }
  reread_more (one_more n d e es tokens mid after rest comma s ls) a =
      let r = reread s (named_first comma.0 (Sign 44) tokens mid comma.1 a).1 in
      let m = reread_more ls r.names in
      record {
        names = m.names;
        allowed = all_allowed (printed e) (printed_more_args es) r.allowed m.allowed;
        plain = λ k h at.
            let f = whole OrLevel d k e after r h (behind 44 at) in
            let g = m.plain k h f.end in
            record {
              found = f.found ∷ g.found;
              end = g.end;
              put = λ rest'. token at (Sign 44) (f.put (g.put rest'));
              same = one_argument e f.found es g.found f.same g.same;
              lexes = λ left ends. then (token at (Sign 44)) (λ rest'. f.put (g.put rest')) at (behind 44 at) g.end (44 ∷ ((printed e ++ printed_more_args es) ++ left)) ((printed e ++ printed_more_args es) ++ left) left (comma_lexes at _)
                  (ap (tokens_from 0 (behind 44 at)) (append_assoc (printed e) (printed_more_args es) left)
                  ∙ then f.put g.put (behind 44 at) f.end g.end (printed e ++ (printed_more_args es ++ left)) (printed_more_args es ++ left) left (f.lexes (printed_more_args es ++ left) (args_end es left ends)) (g.lexes left ends));
              spells = λ rest'. one_more n k f.found g.found (token at (Sign 44) (f.put (g.put rest'))) (f.put (g.put rest')) (g.put rest') rest' (at, refl) (f.spells (g.put rest')) (g.spells rest');
            };
      }

  -- and links, whose operands stand in parentheses exactly if they hold together no tighter than the chain
  reread_links : {l : Level} {d : ℕ} {xs : List Link} {tokens rest : List Token} → Linked l d xs tokens rest → AllNamed tokens → RereadLinks l d xs rest
  reread_links (no_link l d tokens rest q) a = record {
    names = subst AllNamed (sym q) a;
    allowed = refl;
    ranked = some_there 0 _ refl;
    chains = some_there 0 _ refl;
    plain = λ k h at. record { found = []; end = at; put = λ r. r; same = no_links; lexes = λ left ends. nothing at left; spells = λ rest'. no_link l k rest' rest' refl };
  }
  reread_links (one_link l d x xs sign tokens mid after rest o t s ls) a =
      let r = reread s (named_first x.at (Sign sign) tokens mid t a).1 in
      let m = reread_links ls r.names in
      let op = of_level l x.op sign o in
      let loose = level_rank l in
      let c = op.chains in
      let needed = nat_le (rank x.right) loose in
      let text = within needed (printed x.right) in
      record {
        names = m.names;
        allowed = both (is_allowed (sign_of x.op)) (list_all is_allowed (text ++ printed_all_links loose xs)) (operator_allowed x.op) (all_allowed text (printed_all_links loose xs) (within_allowed needed (printed x.right) r.allowed) m.allowed);
        ranked = λ p. op.ranked;
        chains = λ p. op.chains;
        plain = λ k h at.
            let f = operand (tighter l) d k x.right after needed r (λ v. omega (arith, c, leb-true (rank x.right) loose v)) (λ v. omega (arith, c, leb-false (rank x.right) loose v)) h (behind (sign_of x.op) at) in
            let g = m.plain k h f.end in
            let y = link_as at x.op f.found in
            record {
              found = y ∷ g.found;
              end = g.end;
              put = λ rest'. token at (Sign (sign_of x.op)) (f.put (g.put rest'));
              same = same_link x y xs g.found refl f.same g.same;
              lexes = λ left ends. then (token at (Sign (sign_of x.op))) (λ rest'. f.put (g.put rest')) at (behind (sign_of x.op) at) g.end (sign_of x.op ∷ ((text ++ printed_all_links loose xs) ++ left)) ((text ++ printed_all_links loose xs) ++ left) left (operator_lexes x.op at ((text ++ printed_all_links loose xs) ++ left))
                  (ap (tokens_from 0 (behind (sign_of x.op) at)) (append_assoc text (printed_all_links loose xs) left)
                  ∙ then f.put g.put (behind (sign_of x.op) at) f.end g.end (text ++ (printed_all_links loose xs ++ left)) (printed_all_links loose xs ++ left) left (f.lexes (printed_all_links loose xs ++ left) (further_end loose xs left ends)) (g.lexes left ends));
              spells = λ rest'. one_link l k y g.found (sign_of x.op) (token at (Sign (sign_of x.op)) (f.put (g.put rest'))) (f.put (g.put rest')) (g.put rest') rest' op.written refl (f.spells (g.put rest')) (g.spells rest');
            };
      }
