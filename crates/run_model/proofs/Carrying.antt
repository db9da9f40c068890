-- The state by what is due follows the carried relations, event by event: values are taken name by name.
use Rattle.std.proofs.Common.{◌≡◌, ◌&&◌, ◌+◌, ℕ, Bool, true, false, cond, eqb, not, List, [], ◌∷◌, Ordering, Less, Equal, Greater, refl, sym, ap, ◌∙◌, Some, slice_get}
use Rattle.std.specs.Ordering.{eq_by_cmp}
use Rattle.std.specs.FinMap.Entries.{by_order}
use Rattle.rel_model.specs.declared.Rel.{Rel}
use Rattle.run_model.specs.declared.event.Event.{Event}
use Rattle.run_model.specs.declared.event.Act.{Act}
use Rattle.run_model.specs.declared.event.Act.TheVariants.{Read, Assign, Remove}
use Rattle.rel_model.specs.Relation.{Relation}
use Rattle.run_model.specs.Names.{compare, set, remove}
use Rattle.run_model.specs.Due.{Workspace, Gifts}
use Rattle.run_model.specs.States.{Replay, begun, set_by, replay_act, replay}
use Rattle.run_model.specs.Sessions.{rel_of}
use Rattle.run_model.specs.Stored.{IsStored, AreStored, AreInWords}
use Rattle.rel_model.specs.Roots.{relation_in}
use Rattle.std.specs.List.{AllByRecursion}
use Rattle.run_model.specs.Carried.{Carried, SameTo, valued_replay, carry_act, carry, valued, HasDue, AllHaveDue, CarriedIsState}

module _ (means : Rel → Relation) where
  pub one_order : (o : Ordering) (x y z : Carried) →
      valued means (by_order o x y z) ≡ by_order o (valued means x) (valued means y) (valued means z)
  one_order Less x y z = refl
  one_order Equal x y z = refl
  one_order Greater x y z = refl

  pub set_valued : (name : List ℕ) (rel : Rel) (m : Carried) → valued means (set name rel m) ≡ set name (means rel) (valued means m)
  set_valued name rel [] = refl
  set_valued name rel (e ∷ es) =
      one_order (compare name e.0) ((name, rel) ∷ e ∷ es) ((e.0, rel) ∷ es) (e ∷ set name rel es)
      ∙ ap (λ z. by_order (compare name e.0) ((name, means rel) ∷ (e.0, means e.1) ∷ valued means es) ((e.0, means rel) ∷ valued means es) ((e.0, means e.1) ∷ z)) (set_valued name rel es)

  pub keep_valued : (b : Bool) (e : List ℕ × Rel) (es : Carried) →
      valued means (cond b (e ∷ es) es) ≡ cond b ((e.0, means e.1) ∷ valued means es) (valued means es)
  keep_valued true e es = refl
  keep_valued false e es = refl

  pub remove_valued : (name : List ℕ) (m : Carried) → valued means (remove name m) ≡ remove name (valued means m)
  remove_valued name [] = refl
  remove_valued name (e ∷ es) =
      keep_valued (not (eq_by_cmp compare name e.0)) e (remove name es)
      ∙ ap (λ z. cond (not (eq_by_cmp compare name e.0)) ((e.0, means e.1) ∷ z) z) (remove_valued name es)

  -- a choice of two carried maps has the values of the one that is chosen
  pub pick_valued : (b : Bool) (x y : Carried) → cond b (valued means x) (valued means y) ≡ valued means (cond b x y)
  pick_valued true x y = refl
  pick_valued false x y = refl

  module _ (kind : ℕ → Bool) (gifts : ℕ → ℕ → Workspace → Gifts) where
    -- one event of a session of the kind
    one : (s c : ℕ) (a : Act) (q : Replay Relation) (p : Replay Rel) → kind s ≡ true → SameTo kind q (valued_replay means p) →
        HasDue gifts means s c a p → SameTo kind (replay_act gifts s c a q) (valued_replay means (carry_act s c a p))
    one s c Read q p k h d = record {
      now = h.now;
      at_read = λ t e m. picked (eqb t s && eqb e c) q.now (q.at_read t e) p.now (p.at_read t e) h.now (h.at_read t e m);
      given = h.given;
    }
      where
        picked : (b : Bool) (x y : Workspace) (v w : Carried) → x ≡ valued means v → y ≡ valued means w → cond b x y ≡ valued means (cond b v w)
        picked true x y v w e f = e
        picked false x y v w e f = f
    one s c (Assign name rel) q p k h d = record {
      now =
          (λ i. set_by name (slice_get (gifts s c (h.at_read s c k i)) (h.given s c k i)) (h.now i))
          ∙ (ap (λ o. set_by name o (valued means p.now)) d.1
          ∙ (ap (λ v. set name v (valued means p.now)) (sym d.2) ∙ sym (set_valued name rel p.now)));
      at_read = h.at_read;
      given = λ t e m. counted (eqb t s && eqb e c) (ap (λ n. n + 1) (h.given s c k)) (h.given t e m);
    }
      where
        counted : (b : Bool) {x y v w : ℕ} → x ≡ v → y ≡ w → cond b x y ≡ cond b v w
        counted true e f = e
        counted false e f = f
    one s c (Remove name) q p k h d = record {
      now = ap (remove name) h.now ∙ sym (remove_valued name p.now);
      at_read = h.at_read;
      given = h.given;
    }

    pub all : (log : List Event) (q : Replay Relation) (p : Replay Rel) → AllByRecursion (λ e. kind e.session ≡ true) log →
        SameTo kind q (valued_replay means p) → AllHaveDue gifts means p log →
        SameTo kind (replay gifts q log) (valued_replay means (carry p log))
    all [] q p k h d = h
    all (e ∷ es) q p k h d =
        all es (replay_act gifts e.session e.command e.act q) (carry_act e.session e.command e.act p) k.1
        (one e.session e.command e.act q p k.0 h d.0) d.1

    -- what is due is stored, event by event
    module _ (words : List ℕ) where
      one_stored : (s c : ℕ) (a : Act) (q : Replay Relation) (p : Replay Rel) → kind s ≡ true → SameTo kind q (valued_replay means p) →
          HasDue gifts means s c a p → AllByRecursion (λ rel. relation_in words rel ≡ Some (means rel)) (rel_of a) → IsStored gifts words q s c a
      one_stored s c Read q p k h d m = tt
      one_stored s c (Assign name rel) q p k h d m = (
        d.0,
        (λ i. slice_get (gifts s c (h.at_read s c k i)) (h.given s c k i)) ∙ d.1,
        m.0 ∙ ap (λ v. Some v) d.2,
      )
      one_stored s c (Remove name) q p k h d m = tt

      pub stored : (log : List Event) (q : Replay Relation) (p : Replay Rel) → AllByRecursion (λ e. kind e.session ≡ true) log →
          SameTo kind q (valued_replay means p) → AllHaveDue gifts means p log → AreInWords words means log → AreStored gifts words q log
      stored [] q p k h d m = tt
      stored (e ∷ es) q p k h d m = (
        one_stored e.session e.command e.act q p k.0 h d.0 m.0,
        stored es (replay_act gifts e.session e.command e.act q) (carry_act e.session e.command e.act p) k.1
            (one e.session e.command e.act q p k.0 h d.0) d.1 m.1,
      )

pub carried_is_state : CarriedIsState
carried_is_state kind gifts means first before log k h d = all means kind gifts log before (begun first) k h d
