-- From what the steps tell to what callers see.
use Rattle.std.proofs.Common.{◌≡◌, ◌≤◌, ◌<◌, ◌≢◌, ◌+◌, ◌^◌, ℕ, false, List, [], ◌∷◌, sym, ap, subst, ◌∙◌, arith, Option, Some}
use mathlib.Core.Option.{some, some-injective}
use lib.ListN.{get_elem?}
use Rattle.atomic_table.specs.Table.{Me, Final, Seen, opening}
use Rattle.atomic_table.specs.Seated.{TableId, table_id_coded}
use Rattle.turn_book.specs.declared.rule.Known.{Known}
use Rattle.turn_book.specs.declared.rule.Opening.{Opening}
use Rattle.turn_book.specs.Entries.{Entry}
use Rattle.turn_book.specs.Logs.{MakeUp}
use Rattle.turn_book.specs.Origins.{Origin, origin_of, house_in, start_in}
use Rattle.turn_book.specs.Views.{House, Start, View, lists_of}
use Rattle.turn_book.specs.Rule.{Holds, first_view}
use Rattle.turn_book.specs.Held.{book_of, IsPass, view_of}
use Rattle.turn_book.proofs.Ending.{ended, opening_ruled}

-- tables of one book are one
pub one_table : (a b : TableId) → book_of a ≡ book_of b → a ≡ b
one_table a b e = table_id_coded.inj a b e

module _ {S : Type 0} (log : S → List Entry) (house : S → House) (start : S → Start) where
  -- the rule over house and start
  abbrev Ruled : Opening S → Rattle.atomic_table.specs.Table.State (Option S) (Known S) → Type 0
  Ruled key s = Holds log (origin_of house start) key s

  -- a book is made
  pub made_ruled : (key : Opening S) (first : S) (number : ℕ) (slots : List (Option S)) → number < 2 ^ 64 → key.first.value ≡ first → slots ≡ Some first ∷ [] → log first ≡ [] → key.passes < 2 ^ 32 → 1 ≤ key.passes → Ruled key (opening (number ∷ number ∷ []) slots (first_view key))
  made_ruled key first number slots fits e s empty few some_left =
      subst (λ (l : List (Option S)). Ruled key (opening (number ∷ number ∷ []) l (first_view key))) (ap (λ (x : S). Some x ∷ []) e ∙ sym s)
      (opening_ruled log (origin_of house start) key number fits (ap log e ∙ empty) few (λ z. omega arith))

  -- a value that is given back belongs to the house of its pass, and began with the same
  pub same_origin : (o : Option S) (first value : S) → o ≡ Some first → house value ≡ house_in house o → start value ≡ start_in start o → (x : S) → o ≡ Some x → origin_of house start value ≡ origin_of house start x
  same_origin o first value is h s x at =
      let a : house value ≡ house x = h ∙ ap (house_in house) at in
      let b : start value ≡ start x = s ∙ ap (start_in start) at in
      (λ i. record { house = a i; start = b i })

  -- a book is closed: what the slot gives
  pub record Gives (pass : View) (slot : Option S) : Type 0 where
    pub value : S
    pub is : slot ≡ Some value
    pub log_is : log value ≡ pass.seen
    pub shared : MakeUp (lists_of pass) (log value)
    pub house_is : house value ≡ pass.house
    pub start_is : start value ≡ pass.start

  -- whoever closes a book holds all its passes and has no turn, so the slot has a value, and the rule at its end tells
  -- the value's log, lists, house and start
  pub closed : (key : Opening S) (words : List ℕ) (slots : List (Option S)) (id : ℕ) (table : TableId) (me : Me (Option S) (Known S)) (spare : ℕ) (pass : View) (slot : Option S) → Final (Seen (Ruled key) id me.0) words slots → IsPass me spare
      → view_of house start table me spare ≡ pass → spare + 1 ≡ key.passes → pass.turn ≡ false → get_elem? slots 0 ≡ some slot → Gives pass slot
  closed key words slots id table me spare pass slot f p v whole idle got =
      let live : me.0.parts ≢ 0 = (λ z. let a = p.parts in omega arith) in
      let e = ended log (origin_of house start) key words slots id me.0 f (p.parts ∙ whole) live (ap (λ (w : View). w.turn) v ∙ idle) in
      subst (λ (w : View). Gives w slot) v (record {
        value = e.0;
        is = some-injective slot (Some e.0) (sym got ∙ e.1);
        log_is = e.2.log_is;
        shared = e.2.shared;
        house_is = ap (λ (o : Origin). o.house) e.2.origin_is ∙ sym (ap (house_in house) e.2.begun);
        start_is = ap (λ (o : Origin). o.start) e.2.origin_is ∙ sym (ap (start_in start) e.2.begun);
      })
