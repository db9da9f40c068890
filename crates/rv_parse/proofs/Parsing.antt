-- What is read of a text is its script, and what ends the reading is its first fault.
use Rattle.std.proofs.Common.{◌≡◌, ℕ, List, [], ◌++◌, Some, None, refl, sym, ap, ◌∙◌, subst}
use Rattle.std.proofs.lemmas.List.{append-nil}
use Rattle.lang_model.specs.declared.syntax.Place.{Place}
use Rattle.lang_model.specs.declared.syntax.Item.{Item}
use Rattle.lang_model.specs.declared.syntax.Script.{Script}
use Rattle.lang_model.specs.declared.faults.ParseFault.{ParseFault}
use Rattle.lang_model.specs.declared.token.Token.{Token}
use Rattle.lang_model.specs.Lexed.{Ending, EndsAt, lexed_of}
use Rattle.lang_model.specs.Spelling.{SpellsItems, Spells, SpelledBy}
use Rattle.lang_model.specs.Stop.{stop}
use Rattle.rv_parse.specs.Halts.{fault_of}
use Rattle.rv_parse.specs.Got.{RefusesItems}
use Rattle.rv_parse.specs.Stops.{StopsAt, IsFaultOf}
use Rattle.rv_parse.specs.declared.halt.Halt.{Halt}
use Rattle.rv_tokens.proofs.Agreeing.{split_where_lexed, lexed_where_split}
use Rattle.rv_parse.proofs.Scripting.{spelled_fits}

pub parsed : (bytes : List ℕ) (ts : List Token) (e : Ending) (script : Script) → lexed_of bytes ≡ record { tokens = ts; ending = e } → Spells script ts → ((place : Place) × (e ≡ EndsAt place)) → SpelledBy bytes script
parsed bytes ts e script l s end = (ts, split_where_lexed bytes ts end.0 (l ∙ ap (λ z. record { tokens = ts; ending = z }) end.1), s)

none_some : {x : ParseFault} → None ≡ Some x → ⊥
none_some e = cc

-- a text that spells a script has no fault
pub no_stop : (bytes : List ℕ) (script : Script) → SpelledBy bytes script → stop bytes ≡ None
no_stop bytes script s =
    let l = lexed_where_split bytes s.0 s.1 in rw l.1 (spelled_fits script s.0 l.0 s.2)

pub stopped : (bytes : List ℕ) (ts : List Token) (e : Ending) (halt : Halt) (fault : ParseFault) → lexed_of bytes ≡ record { tokens = ts; ending = e } → RefusesItems e ts halt → IsFaultOf halt fault → StopsAt bytes fault
stopped bytes ts e halt fault l r f = λ n.
    let here : stop bytes ≡ Some fault = rw l (r (λ h. n (f n ∙ ap fault_of h)) ∙ ap Some (sym (f n))) in
    (here, λ script s. none_some (sym (no_stop bytes script s) ∙ here))

-- all items that were read
pub items_all : (items : List Item) (start : List Token) → ((is : List Item) (z : List Token) → SpellsItems is [] z → SpellsItems (items ++ is) start z) → SpellsItems items start []
items_all items start so_far = subst (λ is. SpellsItems is start []) (append-nil items) (so_far [] [] refl)
