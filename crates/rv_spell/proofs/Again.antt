-- A printed expression stands in the place of an expression, and behind PRINT it is a script.
use Rattle.std.proofs.Common.{◌≡◌, ℕ, Bool, true, false, map, List, [], ◌∷◌, ◌++◌, Some, option_map, refl, sym, ap, ◌∙◌, subst, suc, arith}
use Rattle.std.specs.List.{list_all}
use Rattle.std.proofs.lemmas.Bool.{false≢true}
use Rattle.std.specs.declared.vec.Vec.{Vec}
use Rattle.std.specs.declared.alloc.Global.{Global}
use Rattle.lang_model.specs.declared.syntax.Place.{Place}
use Rattle.lang_model.specs.declared.syntax.Expr.{Expr}
use Rattle.lang_model.specs.declared.syntax.Command.TheVariants.{Print}
use Rattle.lang_model.specs.declared.syntax.Item.{Item}
use Rattle.lang_model.specs.declared.syntax.Item.TheVariants.{Command as COMMAND}
use Rattle.lang_model.specs.declared.syntax.Script.{Script}
use Rattle.lang_model.specs.declared.token.Keyword.TheVariants.{Print as PRINT}
use Rattle.lang_model.specs.declared.token.Kind.TheVariants.{Keyword, Sign}
use Rattle.lang_model.specs.declared.token.Token.{Token}
use Rattle.lang_model.specs.Tokens.{is_allowed, reserved_words, domain_operators, domain_operator_at, word_kind, kind_at, behind, tokens_from, tokens_of}
use Rattle.lang_model.specs.Printing.{printed}
use Rattle.lang_model.specs.Spelling.{OrLevel, Spelled, SpelledBy}
use Rattle.lang_model.specs.Trees.{Tree, tree_of, without_places, SameUpToPlaces}
use Rattle.rv_spell.specs.Plain.{ItemTree, CommandItem, PrintTree, item_tree, script_tree}
use Rattle.rv_spell.specs.Again.{StandsIn, SpellOnly, ReadAgain, PrintsSame, PrintsAgain}
use Rattle.rv_tokens.proofs.Naming.{all_named, named_behind}
use Rattle.rv_spell.proofs.Pieces.{Lexes, token, then, past, stop_lexes}
use Rattle.rv_spell.proofs.Unambiguous.{agree}
use Rattle.rv_spell.proofs.OneScript.{one_script_law}
use Rattle.rv_spell.proofs.Written.{all_allowed}
use Rattle.rv_spell.proofs.Rereading.{Reread, whole, reread}

of_text : (d : ℕ) (e : Expr) (i : StandsIn d e) → Reread i.level d e i.rest
of_text d e i = reread i.spelled (named_behind i.before i.tokens (all_named i.bytes (i.before ++ i.tokens) i.split))

spell_only : (e found : Expr) (tokens rest : List Token) (k : ℕ) → SameUpToPlaces e found → Spelled OrLevel k found tokens rest → SpellOnly e tokens rest
spell_only e found tokens rest k same s = λ d other left u h h'. let a = agree s u refl h h' in (same ∙ ap without_places a.same, a.left)

pub read_again : (e : Expr) (text : List ℕ) → text ≡ printed e → ReadAgain e text
read_again e text is = subst (ReadAgain e) (sym is) (λ d k i h at. let p = whole i.level d k e i.rest (of_text d e i) h at in record {
  found = p.found;
  end = p.end;
  same = p.same;
  again = λ left rest ends eq. (p.put rest, p.lexes left ends ∙ ap (option_map p.put) eq, p.spells rest, spell_only e p.found (p.put rest) rest k p.same (p.spells rest));
})

-- PRINT and a blank
print_lexes : (at : Place) (bs : List ℕ) → Lexes at (80 ∷ 82 ∷ 73 ∷ 78 ∷ 84 ∷ 32 ∷ bs) (token at (Keyword PRINT)) (past at (80 ∷ 82 ∷ 73 ∷ 78 ∷ 84 ∷ 32 ∷ [])) bs
unfolding kind_at word_kind reserved_words domain_operator_at domain_operators
print_lexes at bs = refl

-- the tokens of a text whose bytes are allowed
split_all : (bytes : List ℕ) (ts : List Token) → list_all is_allowed bytes ≡ true → tokens_from 0 (record { line = 1; column = 1 }) bytes ≡ Some ts → tokens_of bytes ≡ Some ts
unfolding tokens_of
split_all bytes ts a e = rw a e

-- a vector with one item, at the block of another
abbrev one_item : Vec ℕ Global → Item → Vec Item Global
one_item v item = record { ptr = v.ptr; len = 1; cap = 1; alloc = v.alloc; items = item ∷ []; ok = (refl, omega arith); small = omega arith }

-- ---- the script that prints a text
-- whether an item prints
abbrev is_print : ItemTree → Bool
is_print (CommandItem (PrintTree t)) = true
is_print _ = false

-- how many items there are
abbrev count_items : List ItemTree → ℕ
count_items [] = 0
count_items (x ∷ xs) = suc (count_items xs)

first_is : (x y : ItemTree) → x ∷ [] ≡ y ∷ [] → x ≡ y
first_is x y e = cc

one_print : (t u : Tree) → CommandItem (PrintTree t) ≡ CommandItem (PrintTree u) → t ≡ u
one_print t u e = cc

-- an item whose tree prints is a PRINT
prints : (item : Item) (t : Tree) → CommandItem (PrintTree t) ≡ item_tree item → (f : Expr) × (item ≡ COMMAND (Print f)) × (t ≡ tree_of f)
prints (COMMAND (Print f)) t e = (f, refl, one_print t (tree_of f) e)
prints item t e = absurd (false≢true (sym (ap is_print e)))

only_print : (items : List Item) (t : Tree) → CommandItem (PrintTree t) ∷ [] ≡ map item_tree items → (f : Expr) × (items ≡ COMMAND (Print f) ∷ []) × (t ≡ tree_of f)
only_print [] t e = let n : 1 ≡ 0 = ap count_items e in absurd (omega (arith, n))
only_print (item ∷ (other ∷ items)) t e = let n : 1 ≡ suc (suc (count_items (map item_tree items))) = ap count_items e in absurd (omega (arith, n))
only_print (item ∷ []) t e = let p = prints item t (first_is (CommandItem (PrintTree t)) (item_tree item) e) in (p.0, ap (λ x. x ∷ []) p.1, p.2)

same_printed : (e found : Expr) (other : Script) → SameUpToPlaces e found → CommandItem (PrintTree (tree_of found)) ∷ [] ≡ script_tree other → PrintsSame e other
same_printed e found other h k = let p = only_print other.items.items (tree_of found) k in (p.0, p.1, h ∙ ap without_places p.2)

-- PRINT, the printed expression and '.' are a script that prints the same up to places: their tokens stand one behind
-- another, and a text has one script
pub prints_again : (d : ℕ) (e : Expr) (v : Vec ℕ Global) → v.items ≡ printed e → StandsIn d e → PrintsAgain e v.items
prints_again d e v is i =
    let start : Place = record { line = 1; column = 1 } in
    let at = past start (80 ∷ 82 ∷ 73 ∷ 78 ∷ 84 ∷ 32 ∷ []) in
    let r = of_text d e i in
    let p = whole i.level d 0 e i.rest r (omega arith) at in
    let more = p.put (token p.end (Sign 46) []) in
    let tokens = token start (Keyword PRINT) more in
    let bytes = 80 ∷ 82 ∷ 73 ∷ 78 ∷ 84 ∷ 32 ∷ (printed e ++ 46 ∷ []) in
    let lexed : tokens_from 0 start bytes ≡ Some tokens =
    then (token start (Keyword PRINT)) (λ rest. p.put (token p.end (Sign 46) rest)) start at (behind 46 p.end) bytes (printed e ++ 46 ∷ []) [] (print_lexes start (printed e ++ 46 ∷ []))
    (then p.put (token p.end (Sign 46)) at p.end (behind 46 p.end) (printed e ++ 46 ∷ []) (46 ∷ []) [] (p.lexes (46 ∷ []) refl) (stop_lexes p.end [])) in
    let split : tokens_of bytes ≡ Some tokens = split_all bytes tokens (all_allowed (printed e) (46 ∷ []) r.allowed refl) lexed in
    let script : Script = record { items = one_item v (COMMAND (Print p.found)) } in
    let spelled : SpelledBy bytes script = (tokens, split, (token p.end (Sign 46) [], [], (more, (start, refl), p.spells (token p.end (Sign 46) [])), (p.end, refl), refl)) in
    subst (PrintsAgain e) (sym is) (record { script = script; spelled = spelled; only = λ other o. same_printed e p.found other p.same (one_script_law bytes script other spelled o) })
