-- Each block of a script assigns at least one name, since the grammar asks for one.
use Rattle.std.specs.Prelude.{slice_get}
use Rattle.std.proofs.Common.{◌≡◌, ◌-◌, ℕ, zero, suc, List, [], ◌∷◌, Option, Some, None, refl, ap, subst, ◌∙◌, arith}
use Rattle.lang_model.specs.declared.syntax.Command.TheVariants.{Relation as RELATION, Let, Print as PRINT, List as LIST, Count, Typed, Remove as DROP, Snap, At, Load, Save, LoadAll, SaveAll, Atomic, Explain}
use Rattle.lang_model.specs.declared.syntax.Item.{Item}
use Rattle.lang_model.specs.declared.syntax.Item.TheVariants.{Function, Program, Command as COMMAND}
use Rattle.lang_model.specs.declared.syntax.Let.{Let as BlockLet}
use Rattle.lang_model.specs.declared.syntax.Script.{Script}
use Rattle.lang_model.specs.declared.token.Token.{Token}
use Rattle.lang_model.specs.Spelling.{SpelledLets, one_let, SpellsItem, SpellsItems}
use Rattle.run_model.specs.Inputs.{Reading, Runs, IsReading, AreReadings, item_at}
use Rattle.run_model.specs.Outcomes.{lets_of}

-- there is an assignment
abbrev pub HasLet : List BlockLet → Type 0
HasLet lets = (l : BlockLet) × (ls : List BlockLet) × (lets ≡ l ∷ ls)

spelled_has : {lets : List BlockLet} {tokens rest : List Token} → SpelledLets lets tokens rest → HasLet lets
spelled_has (one_let l ls tokens mid rest s more) = (l, ls, refl)

-- ---- one item
abbrev some_lets : Option (List BlockLet) → ℕ
some_lets None = 0
some_lets (Some l) = 1

abbrev lets_or : List BlockLet → Option (List BlockLet) → List BlockLet
lets_or d None = d
lets_or d (Some l) = l

no_block : (lets : List BlockLet) → None ≡ Some lets → HasLet lets
no_block lets e = let z : 0 ≡ 1 = ap some_lets e in absurd (omega (arith, z))

-- an item that is a block has an assignment, since it is spelled with one; the other items are no blocks
item_has : (item : Item) (tokens rest : List Token) (lets : List BlockLet) → SpellsItem item tokens rest → lets_of item ≡ Some lets → HasLet lets
item_has (COMMAND (Atomic own)) tokens rest lets s e = subst HasLet (ap (lets_or lets) e) (spelled_has s.3)
item_has (COMMAND (RELATION name rows rows_at cols cols_at list)) tokens rest lets s e = no_block lets e
item_has (COMMAND (Let name x)) tokens rest lets s e = no_block lets e
item_has (COMMAND (PRINT x)) tokens rest lets s e = no_block lets e
item_has (COMMAND (LIST x)) tokens rest lets s e = no_block lets e
item_has (COMMAND (Count x)) tokens rest lets s e = no_block lets e
item_has (COMMAND (Typed x)) tokens rest lets s e = no_block lets e
item_has (COMMAND (DROP at name)) tokens rest lets s e = no_block lets e
item_has (COMMAND (Snap name)) tokens rest lets s e = no_block lets e
item_has (COMMAND (At at name x)) tokens rest lets s e = no_block lets e
item_has (COMMAND (Load name file)) tokens rest lets s e = no_block lets e
item_has (COMMAND (Save x file)) tokens rest lets s e = no_block lets e
item_has (COMMAND (LoadAll file)) tokens rest lets s e = no_block lets e
item_has (COMMAND (SaveAll file)) tokens rest lets s e = no_block lets e
item_has (COMMAND (Explain x)) tokens rest lets s e = no_block lets e
item_has (Function at name params body) tokens rest lets s e = no_block lets e
item_has (Program at name params decls body result) tokens rest lets s e = no_block lets e

-- ---- all items
abbrev item_or : Item → Option Item → Item
item_or d None = d
item_or d (Some x) = x

abbrev some_item : Option Item → ℕ
some_item None = 0
some_item (Some x) = 1

-- and so has each block among items, by induction on these
items_have : (items : List Item) (k : ℕ) (tokens rest : List Token) (item : Item) (lets : List BlockLet) → SpellsItems items tokens rest
    → slice_get items k ≡ Some item → lets_of item ≡ Some lets → HasLet lets
items_have [] k tokens rest item lets s i e = let z : 0 ≡ 1 = ap some_item i in absurd (omega (arith, z))
items_have (x ∷ xs) zero tokens rest item lets s i e =
    item_has x _ _ lets s.2 (ap lets_of (ap (item_or x) i) ∙ e)
items_have (x ∷ xs) (suc k) tokens rest item lets s i e = items_have xs k _ _ item lets s.4 i e

-- ---- a script that runs was read
abbrev reading_or : Reading → Option Reading → Reading
reading_or d None = d
reading_or d (Some x) = x

abbrev some_reading : Option Reading → ℕ
some_reading None = 0
some_reading (Some x) = 1

read_at : (scripts : List (List ℕ)) (readings : List Reading) (k : ℕ) (reading : Reading) → AreReadings scripts readings
    → slice_get readings k ≡ Some reading → (bytes : List ℕ) × IsReading bytes reading
read_at scripts [] k reading h i = let z : 0 ≡ 1 = ap some_reading i in absurd (omega (arith, z))
read_at [] (r ∷ rs) k reading h i = absurd h
read_at (b ∷ bs) (r ∷ rs) zero reading h i = (b, subst (IsReading b) (ap (reading_or r) i) h.0)
read_at (b ∷ bs) (r ∷ rs) (suc k) reading h i = read_at bs rs k reading h.1 i

pub block_has : (scripts : List (List ℕ)) (readings : List Reading) (k c : ℕ) (script : Script) (item : Item) (lets : List BlockLet)
    → AreReadings scripts readings → slice_get readings k ≡ Some (Runs script) → item_at script c ≡ Some item
    → lets_of item ≡ Some lets → HasLet lets
unfolding item_at
block_has scripts readings k c script item lets read r i e =
    let bytes = read_at scripts readings k (Runs script) read r in
    let spelled = bytes.1.0 in
    items_have script.items.items (c - 1) _ _ item lets spelled.2 i e
