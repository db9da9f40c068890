-- The names that a batch leaves have relations that stand: those of its first names, and those that its events assign.
use Rattle.std.proofs.Common.{Bool, true, false, cond, List, [], ◌∷◌}
use Rattle.std.specs.List.{AllByRecursion}
use Rattle.std.specs.FinMap.Entries.{by_order, put, where_key}
use Rattle.std.specs.declared.cmp.Ordering.TheVariants.{Less, Equal, Greater}
use Rattle.std.specs.Ordering.{eq_by_cmp}
use Rattle.std.specs.Prelude.{ℕ, not}
use Rattle.std.proofs.lemmas.List.Elements.{All-head, All-tail}
use Rattle.rel_model.specs.declared.Rel.{Rel}
use Rattle.rel_model.specs.Worker.{Worker, Stands}
use Rattle.run_model.specs.declared.event.Event.{Event}
use Rattle.run_model.specs.declared.event.Act.{Act}
use Rattle.run_model.specs.declared.event.Act.TheVariants.{Read, Assign, Remove}
use Rattle.run_model.specs.Names.{compare, set}
use Rattle.run_model.specs.States.{Replay, begun}
use Rattle.run_model.specs.Carried.{Carried, carry_act, carry, carried_from}
use Rattle.run_model.specs.Sessions.{rel_of}
use Rattle.rv_workspace.specs.Books.{EventStands, HistoryStands, AllNamesStand}

module _ (w : Worker) where
  set_stand : (name : List ℕ) (rel : Rel) (names : Carried) → Stands w rel → AllNamesStand w names → AllNamesStand w (set name rel names)
  set_stand name rel [] s h = (s, tt)
  set_stand name rel (e ∷ es) s h =
      elim (compare name e.0) as (λ o. AllByRecursion (λ (entry : List ℕ × Rel). Stands w entry.1) (by_order o ((name, rel) ∷ e ∷ es) ((e.0, rel) ∷ es) (e ∷ put compare name rel es))) [
        | Less ↦ (s, h)
        | Equal ↦ (s, h.1)
        | Greater ↦ (h.0, set_stand name rel es s h.1)
      ]

  left_stand : (test : List ℕ → Bool) (names : Carried) → AllNamesStand w names → AllNamesStand w (where_key compare test names)
  left_stand test [] h = tt
  left_stand test (e ∷ es) h =
      elim (test e.0) as (λ b. AllByRecursion (λ (entry : List ℕ × Rel). Stands w entry.1) (cond b (e ∷ where_key compare test es) (where_key compare test es))) [
        | true ↦ (h.0, left_stand test es h.1)
        | false ↦ left_stand test es h.1
      ]

  act_stand : (s c : ℕ) (act : Act) (p : Replay Rel) → AllByRecursion (Stands w) (rel_of act) → AllNamesStand w p.now → AllNamesStand w (carry_act s c act p).now
  act_stand s c Read p h k = k
  act_stand s c (Assign name rel) p h k = set_stand name rel p.now h.0 k
  act_stand s c (Remove name) p h k = left_stand (λ n. not (eq_by_cmp compare name n)) p.now k

  carry_stand : (es : List Event) (p : Replay Rel) → HistoryStands w es → AllNamesStand w p.now → AllNamesStand w (carry p es).now
  carry_stand [] p h k = k
  carry_stand (e ∷ es) p h k =
      carry_stand es (carry_act e.session e.command e.act p) (All-tail (EventStands w) e es h) (act_stand e.session e.command e.act p (All-head (EventStands w) e es h) k)

  pub left_names_stand : (first : Carried) (es : List Event) → AllNamesStand w first → HistoryStands w es → AllNamesStand w (carried_from first es)
  unfolding carried_from
  left_names_stand first es h k = carry_stand es (begun first) k h
