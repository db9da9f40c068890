-- What the assignments of one command give, from the state that it read.
-- 1. Events of others leave what is noted of the command: the state at its read, and how many names it gave something.
-- 2. So its assignments, one after another, give their names the values that are due of it, in order, and their relations
--    stand with these values in words that hold what its session assigns.
use Rattle.std.specs.Prelude.{slice_get}
use Rattle.std.specs.List.{list_any}
use Rattle.std.proofs.Common.{◌≡◌, ◌+◌, ◌&&◌, ℕ, suc, Bool, false, cond, eqb, List, [], ◌∷◌, ◌++◌, map, Option, Some, None, refl, sym, ap, subst, ◌∙◌, inl, inr, arith, add-zero}
use Rattle.std.proofs.lemmas.Bool.{cases_Bool, false≢true, or_parts, and_parts, and_from, eq-eqb}
use Rattle.rel_model.specs.Relation.{Relation}
use Rattle.run_model.specs.declared.event.Event.{Event}
use Rattle.run_model.specs.declared.event.Act.{Act}
use Rattle.run_model.specs.declared.event.Act.TheVariants.{Read, Assign, Remove}
use Rattle.run_model.specs.Due.{Workspace, Gifts}
use Rattle.run_model.specs.Events.{entry_of, entries, giving}
use Rattle.run_model.specs.States.{Replay, is_of, at_command, set_by, replay_act, replay}
use Rattle.run_model.specs.Solo.{set_all}
use Rattle.run_model.specs.Stored.{IsStored}
use Rattle.run_model.proofs.Entries.{gives_event, heads, tails, not_empty}
use Rattle.run_model.proofs.Behind.{put_here}
use Rattle.relview.specs.Blocks.{AssignInWords}
use Rattle.relview.proofs.Tabled.{StoredBy}

abbrev gift_or : List ℕ × Relation → Option (List ℕ × Relation) → List ℕ × Relation
gift_or d None = d
gift_or d (Some g) = g

module _ (gifts : ℕ → ℕ → Workspace → Gifts) (words : ℕ → List ℕ) where
  -- what is stored behind events
  pub stored_behind : (p : Replay Relation) (xs ys : List Event) → StoredBy gifts words p (xs ++ ys) → StoredBy gifts words (replay gifts p xs) ys
  stored_behind p [] ys h = h
  stored_behind p (x ∷ xs) ys h = stored_behind (replay_act gifts x.session x.command x.act p) xs ys h.1

  -- to replay events behind others is to replay them from what those leave
  pub replay_append : (p : Replay Relation) (xs ys : List Event) → replay gifts p (xs ++ ys) ≡ replay gifts (replay gifts p xs) ys
  replay_append p [] ys = refl
  replay_append p (x ∷ xs) ys = replay_append (replay_act gifts x.session x.command x.act p) xs ys

  module _ (s c : ℕ) where
    -- ---- events of others
    other_way : (t d : ℕ) → (eqb t s && eqb d c) ≡ false → (eqb s t && eqb c d) ≡ false
    other_way t d f = elim (cases_Bool (eqb s t && eqb c d)) [
      | inl is ↦
          let parts = and_parts (eqb s t) (eqb c d) is in
          let same_s : t ≡ s = grind (arith, parts.0) in
          let same_c : d ≡ c = grind (arith, parts.1) in
          absurd (false≢true (sym f ∙ and_from (eqb t s) (eqb d c) (eq-eqb t s same_s) (eq-eqb d c same_c)))
      | inr off ↦ off
    ]

    put_there : {V : Type 0} (t d : ℕ) (v : V) (f : ℕ → ℕ → V) → (eqb t s && eqb d c) ≡ false → at_command t d v f s c ≡ f s c
    put_there t d v f off = ap (λ (b : Bool). cond b v (f s c)) (other_way t d off)

    -- what is noted of the command in a replay
    pub record Noted (p : Replay Relation) (state : Workspace) (count : ℕ) : Type 0 where
      pub read : p.at_read s c ≡ state
      pub given : p.given s c ≡ count

    act_keeps : (t d : ℕ) (a : Act) (p : Replay Relation) (state : Workspace) (k : ℕ) → (eqb t s && eqb d c) ≡ false → Noted p state k →
        Noted (replay_act gifts t d a p) state k
    act_keeps t d Read p state k off n = record { read = put_there t d p.now p.at_read off ∙ n.read; given = n.given }
    act_keeps t d (Assign name rel) p state k off n =
        record { read = n.read; given = put_there t d (p.given t d + 1) p.given off ∙ n.given }
    act_keeps t d (Remove name) p state k off n = record { read = n.read; given = n.given }

    pub others_keep : (xs : List Event) (p : Replay Relation) (state : Workspace) (k : ℕ) → list_any (is_of s c) xs ≡ false → Noted p state k →
        Noted (replay gifts p xs) state k
    others_keep [] p state k q n = n
    others_keep (x ∷ xs) p state k q n =
        let a : (is_of s c x ≡ false) × (list_any (is_of s c) xs ≡ false) = or_parts (is_of s c x) (list_any (is_of s c) xs) q in
        others_keep xs (replay_act gifts x.session x.command x.act p) state k a.1 (act_keeps x.session x.command x.act p state k a.0 n)

    -- its read notes the state
    pub read_notes : (p : Replay Relation) (state : Workspace) → Noted p state 0 → Noted (replay_act gifts s c Read p) p.now 0
    read_notes p state n = record { read = put_here s c p.now p.at_read; given = n.given }

    -- ---- its assignments
    pub assigns_all : (gs all : Gifts) (k : ℕ) (state : Workspace) (p : Replay Relation) (mine later : List Event) →
        Noted p state k → gifts s c state ≡ all → ((j : ℕ) → slice_get all (k + j) ≡ slice_get gs j) →
        map entry_of mine ≡ entries s c (giving gs) → StoredBy gifts words p (mine ++ later) →
        ((replay gifts p mine).now ≡ set_all gs p.now) × AssignInWords (words s) mine gs
    assigns_all [] all k state p [] later n a d h st = (refl, tt)
    assigns_all [] all k state p (e ∷ es) later n a d h st = absurd (not_empty _ _ h)
    assigns_all (gift ∷ gs) all k state p [] later n a d h st = absurd (not_empty _ _ (sym h))
    assigns_all (gift ∷ gs) all k state p (e ∷ es) later n a d h st =
        let x = gives_event e s c gift.0 gift.1.rows gift.1.cols (heads _ _ _ _ h) in
        let q : Replay Relation = replay_act gifts s c (Assign gift.0 x.0) p in
        let found : slice_get (gifts s c (p.at_read s c)) (p.given s c) ≡ Some gift =
        (λ i. slice_get (gifts s c (n.read i)) (n.given i)) ∙ (ap (λ l. slice_get l k) a ∙ (ap (slice_get all) (sym (add-zero k)) ∙ d 0)) in
        let noted : Noted q state (k + 1) = record {
          read = n.read;
          given = put_here s c (p.given s c + 1) p.given ∙ ap (λ m. m + 1) n.given;
        } in
        let kept : StoredBy gifts words q (es ++ later) =
        subst (λ (y : Event). StoredBy gifts words (replay_act gifts y.session y.command y.act p) (es ++ later)) x.1 st.1 in
        let here : IsStored gifts (words s) p s c (Assign gift.0 x.0) =
        subst (λ (y : Event). IsStored gifts (words y.session) p y.session y.command y.act) x.1 st.0 in
        let same : here.0 ≡ gift = ap (gift_or gift) (sym here.1 ∙ found) in
        let rest = assigns_all gs all (k + 1) state q es later noted a (λ j. ap (slice_get all) (later_place k j) ∙ d (suc j)) (tails _ _ _ _ h) kept in (
          ap (λ (y : Event). (replay gifts (replay_act gifts y.session y.command y.act p) es).now) x.1
              ∙ (rest.0 ∙ ap (λ (o : Option (List ℕ × Relation)). set_all gs (set_by gift.0 o p.now)) found),
          ((x.0, ap (λ (y : Event). y.act) x.1, here.2 ∙ ap (λ (g : List ℕ × Relation). Some g.1) same), rest.1),
        )
      where
        later_place : (k j : ℕ) → (k + 1) + j ≡ k + suc j
        later_place k j = omega arith
