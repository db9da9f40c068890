-- Each step keeps the whole rule.
-- 1. A step on a node word sees and changes node words alone, so what the rule of the node words allows is allowed by the whole rule (`lift`). Memo words that are true equations stay so, since words are only added.
-- 2. A load of a memo word lets the seat see all node words of that moment, in which the rule says that the equation is true (`memo_load_allowed`).
-- 3. A store writes an equation that is true in the seat's view, and so in the words of the table, which extend it (`memo_store_allowed`).
-- 4. No step writes 0 to a memo word, so a slot that was taken stays taken (`all_taken_on`). Where there is one seat, no other writes, so the word of its last memo step stays (`all_there_on`, `two_parts`).
use Rattle.std.proofs.Common.{◌≡◌, ◌<◌, ◌≢◌, ◌+◌, ◌-◌, ◌^◌, eqb, zero, ℕ, List, [], ◌∷◌, length, set, replicate, take, refl, sym, ap, subst, ◌∙◌, inl, inr, arith, get_or, get_or-set_other, get_or-set_same, suc, ◌≤◌, ◌++◌, Option, Some, None}
use Rattle.std.proofs.Math.ListN.{length-set, length-replicate}
use Rattle.std.proofs.Math.Seq.{take-set-lt}
use Rattle.std.proofs.lemmas.List.{take-set-le, get_or-take, length-take-le, take-replicate}
use Rattle.std.proofs.lemmas.Bool.{ne_eqb}
use mathlib.Core.Option.{some, some-injective, some-ne-none}
use lib.ListN.{get_elem?}
use prog.Atomic.{either}
use Rattle.atomic_table.specs.Table.{Me, step, keeps, Allows, Splits, Joins, Final, Seen, carried_after}
use Rattle.atomic_table.proofs.Lists.{at_set, at_snoc}
use Rattle.rel_model.specs.Words.{Extends, IsDistinct, IsSound}
use Rattle.rel_model.specs.Equations.{Operator, Union, Inter, Diff, Transpose, Compose, IsMemo, IsSoundTable, code_of, memo_slots, memo_word, node_words, word_of_equation}
use Rattle.rel_model.proofs.EquationLaws.{memo_stays}
use Rattle.pair_table.specs.declared.rule.Known.{Known}
use Rattle.pair_table.specs.declared.rule.Start.{Start}
use Rattle.pair_table.specs.Probe.{IsNext}
use Rattle.pair_table.specs.Memos.{IsStillTaken, IsStillThere}
use Rattle.pair_table.specs.Rule.{total, NodesHold, Holds, first_view, left_of, right_of, both_of, spent}
use Rattle.pair_table.specs.Tells.{SeesMemo, StoresMemo, load_tells, place_tells, cut_tells, memo_load_tells, memo_store_tells}
use Rattle.pair_table.proofs.Placing.{cases_eq, vacant_at, vacant_sound}
use Rattle.pair_table.proofs.Ruling.{at_most, NodesOf, sees_all, extends_itself, set_back, rule_after, looks, split_allowed, join_allowed, opening_ruled, load_allowed, place_allowed, cut_allowed, same_number, IsEnd, ended}

-- ---- slots that stay taken
-- a memo word is not 0, since operators count from 1
pub memo_taken : (words : List ℕ) (slot word : ℕ) → IsMemo words slot word → word ≢ 0
memo_taken words slot word m z = let e : word_of_equation m.equation ≡ 0 = sym m.is_word ∙ z in let c = code_of-some m.equation.op in omega arith
  where
    code_of-some : (op : Operator) → 1 ≤ code_of op
    code_of-some Union = omega arith
    code_of-some Inter = omega arith
    code_of-some Diff = omega arith
    code_of-some Transpose = omega arith
    code_of-some Compose = omega arith

-- where slots that were taken are taken, so is that of a last memo step
pub taken_on : (bits : ℕ) (old new : List ℕ) → ((slot : ℕ) → memo_word bits old slot ≢ 0 → memo_word bits new slot ≢ 0) → (last : Option (ℕ × ℕ)) → IsStillTaken bits old last → IsStillTaken bits new last
taken_on bits old new h None t = tt
taken_on bits old new h (Some p) t = λ z. h p.0 (t z)

-- what the rule says of all views
abbrev pub AllTaken : ℕ → List ℕ → List Known → Type 0
AllTaken bits words views = (id : ℕ) (v : Known) → get_elem? views id ≡ some v → IsStillTaken bits words v.last

-- the view of the seat that takes a step changes, and slots stay taken
pub all_taken_on : (bits : ℕ) (old new : List ℕ) (views : List Known) (id : ℕ) (w : Known) → ((slot : ℕ) → memo_word bits old slot ≢ 0 → memo_word bits new slot ≢ 0) → IsStillTaken bits new w.last → AllTaken bits old views
    → AllTaken bits new (set views id w)
all_taken_on bits old new views id w h t all i v e = elim (at_set views id i w v e) [
  | inl s ↦ subst (λ (k : Known). IsStillTaken bits new k.last) s.1 t
  | inr s ↦ taken_on bits old new h v.last (all i v s.1)
]

-- where memo words stay, so does that of a last memo step
there_on : (bits : ℕ) (old new : List ℕ) → ((slot : ℕ) → memo_word bits new slot ≡ memo_word bits old slot) → (last : Option (ℕ × ℕ)) → IsStillThere bits old last → IsStillThere bits new last
there_on bits old new h None t = tt
there_on bits old new h (Some p) t = h p.0 ∙ t

-- what the rule says of the one seat
abbrev pub AllThere : Start → List ℕ → List Known → Type 0
AllThere start words views = start.seats ≡ 1 → (id : ℕ) (v : Known) → get_elem? views id ≡ some v → v.parts ≢ 0 → IsStillThere start.bits words v.last

-- a view changes, and memo words stay
pub all_there_on : (start : Start) (old new : List ℕ) (views : List Known) (id : ℕ) (w : Known) → ((slot : ℕ) → memo_word start.bits new slot ≡ memo_word start.bits old slot) → (start.seats ≡ 1 → w.parts ≢ 0 → IsStillThere start.bits new w.last) → AllThere start old views
    → AllThere start new (set views id w)
all_there_on start old new views id w h t all o i v e l = elim (at_set views id i w v e) [
  | inl s ↦ subst (λ (k : Known). IsStillThere start.bits new k.last) s.1 (t o (subst (λ (k : Known). k.parts ≢ 0) (sym s.1) l))
  | inr s ↦ there_on start.bits old new h v.last (all o i v s.1 l)
]

-- two views stand for no more seats than all do
two_parts : (views : List Known) (i j : ℕ) (u v : Known) → i ≢ j → get_elem? views i ≡ some u → get_elem? views j ≡ some v → u.parts + v.parts ≤ total (λ k. k.parts) views
two_parts [] i j u v n e f = absurd (some-ne-none u (sym e))
two_parts (x ∷ xs) zero zero u v n e f = absurd (n refl)
two_parts (x ∷ xs) zero (suc j) u v n e f = let h : x.parts ≡ u.parts = ap (λ (k : Known). k.parts) (some-injective x u e) in let a = at_most (λ k. k.parts) xs j v f in omega arith
two_parts (x ∷ xs) (suc i) zero u v n e f = let h : x.parts ≡ v.parts = ap (λ (k : Known). k.parts) (some-injective x v f) in let a = at_most (λ k. k.parts) xs i u e in omega arith
two_parts (x ∷ xs) (suc i) (suc j) u v n e f = let a = two_parts xs i j u v (λ z. n (ap suc z)) e f in omega arith

-- ---- steps
-- a step that changes only what is 0 keeps what was seen
kept_set : (f : ℕ → ℕ) → ((x : ℕ) → x ≢ 0 → f x ≡ x) → (words : List ℕ) (n : ℕ) → n < length words → Extends words (set words n (f (get_or words n 0)))
kept_set f h words n l = record {
  same_length = length-set words n _;
  kept = λ m z. elim (cases_eq m n) [
    | inl e ↦ subst (λ (k : ℕ). get_or (set words n (f (get_or words n 0))) k 0 ≡ get_or words k 0) (sym e) (rw get_or-set_same (h (get_or words n 0) (λ y. z (ap (λ (k : ℕ). get_or words k 0) e ∙ y))))
    | inr e ↦ rw get_or-set_other refl
  ];
}

-- what is allowed by the rule of the node words is allowed by the whole rule
lift : {S : Type 0} (start : Start) (slots id place : ℕ) (m : Me S Known) (f : ℕ → ℕ) (then : ℕ → Me S Known → Type 0) → place < 2 ^ start.bits → ((x : ℕ) → x ≢ 0 → f x ≡ x) → ((k : ℕ) (n : Me S Known) → then k n → n.0.last ≡ m.0.last) → m.0.parts ≢ 0
    → Allows (NodesOf start) slots id m place f then → Allows (Holds start) slots id m place f then
lift start slots id place m f then l h still live allowed s r homes at fits =
    let n : ℕ = 2 ^ start.bits in
    let nodes : List ℕ = take n s.words in
    let same : get_or nodes place 0 ≡ get_or s.words place 0 = get_or-take n s.words place 0 l in
    let a = allowed (record { words = nodes; homes = s.homes; views = s.views }) r.nodes homes at (subst (λ (k : ℕ). k < 18446744073709551616) (sym same) fits) in
    let x = kept_set f h nodes place (subst (λ (k : ℕ). place < k) (sym r.nodes.size_is) l) in
    let new : set nodes place (f (get_or nodes place 0)) ≡ take n (set s.words place (f (get_or s.words place 0))) =
    ap (λ (k : ℕ). set nodes place (f k)) same ∙ sym (take-set-lt n s.words place (f (get_or s.words place 0)) l) in (
      a.0,
      a.1,
      a.2,
      record {
        long = length-set s.words place _ ∙ r.long;
        nodes = subst (λ (ws : List ℕ). NodesHold start ws (set s.views id a.0)) new a.3;
        memo = λ slot b z.
            let other : n + slot ≢ place = (λ e. omega arith) in
            let e : memo_word start.bits (set s.words place (f (get_or s.words place 0))) slot ≡ memo_word start.bits s.words slot = rw get_or-set_other refl in
            subst (λ (ws : List ℕ). IsMemo ws slot (memo_word start.bits (set s.words place (f (get_or s.words place 0))) slot)) new
            (subst (λ (w : ℕ). IsMemo (set nodes place (f (get_or nodes place 0))) slot w) (sym e)
            (memo_stays nodes _ slot _ x r.nodes.sound.distinct a.3.sound.distinct (r.memo slot b (λ y. z (e ∙ y)))));
        taken =
            (let on : (slot : ℕ) → memo_word start.bits s.words slot ≢ 0 → memo_word start.bits (set s.words place (f (get_or s.words place 0))) slot ≢ 0 = (λ slot z y.
            let other : n + slot ≢ place = (λ e. omega arith) in
            let e : memo_word start.bits (set s.words place (f (get_or s.words place 0))) slot ≡ memo_word start.bits s.words slot = rw get_or-set_other refl in
            z (sym e ∙ y)) in
            all_taken_on start.bits s.words _ s.views id a.0 on
            (subst (λ (o : Option (ℕ × ℕ)). IsStillTaken start.bits (set s.words place (f (get_or s.words place 0))) o) (sym (still _ _ a.4)) (taken_on start.bits s.words _ on m.0.last (r.taken id m.0 at)))
            r.taken);
        alone =
            (let same_memo : (slot : ℕ) → memo_word start.bits (set s.words place (f (get_or s.words place 0))) slot ≡ memo_word start.bits s.words slot = (λ slot.
            let other : n + slot ≢ place = (λ e. omega arith) in
            rw get_or-set_other refl) in
            all_there_on start s.words _ s.views id a.0 same_memo
            (λ o z. subst (λ (x : Option (ℕ × ℕ)). IsStillThere start.bits (set s.words place (f (get_or s.words place 0))) x) (sym (still _ _ a.4)) (there_on start.bits s.words _ same_memo m.0.last (r.alone o id m.0 at live)))
            r.alone);
      },
      subst (λ (k : ℕ). then k (a.0, carried_after m.1 a.1)) same a.4,
    )

-- a load of a memo word: the seat sees all node words
pub memo_load_allowed : {S : Type 0} (start : Start) (slots id slot : ℕ) (m : Me S Known) → m.0.parts ≢ 0 → slot < memo_slots → length m.0.words ≡ 2 ^ start.bits
    → Allows (Holds start) slots id m (2 ^ start.bits + slot) (λ n. n) (memo_load_tells (step slots (2 ^ start.bits + slot) 0 0 mathlib.Core.Option.none) m)
memo_load_allowed start slots id slot m live l size_is s r homes at fits =
    let nodes : List ℕ = node_words start.bits s.words in
    let found : ℕ = memo_word start.bits s.words slot in
    let last : Option (ℕ × ℕ) = Some (slot, found) in
    let w : Known = sees_all m.0 nodes m.0.made 0 last in
    let e : slot ≡ 2 ^ start.bits + slot - length m.0.words = omega arith in (
      w,
      keeps,
      tt,
      subst (λ (ws : List ℕ). Holds start (record { words = ws; homes = s.homes; views = set s.views id w })) (sym (set_back s.words (2 ^ start.bits + slot)))
          (record { long = r.long; nodes = rule_after start nodes nodes s.views id m.0 m.0.made 0 last r.nodes at live (extends_itself nodes) r.nodes.sound refl; memo = r.memo; taken = all_taken_on start.bits s.words s.words s.views id w (λ k z. z) (λ z. z) r.taken; alone = all_there_on start s.words s.words s.views id w (λ k. refl) (λ o z. refl) r.alone }),
      (
        subst (λ (k : ℕ). SeesMemo k found m.0 w) e
            (record { steps = looks start nodes s.views id m.0 0 last r.nodes at live; made = refl; holds = λ z. r.memo slot l z; last = refl }),
        refl,
      ),
    )

-- a store of a memo word that is true in the view
pub memo_store_allowed : {S : Type 0} (start : Start) (slots id slot word : ℕ) (m : Me S Known) → m.0.parts ≢ 0 → slot < memo_slots → length m.0.words ≡ 2 ^ start.bits → IsDistinct m.0.words → IsMemo m.0.words slot word
    → Allows (Holds start) slots id m (2 ^ start.bits + slot) (λ _. word) (λ _. memo_store_tells (step slots (2 ^ start.bits + slot) word 0 mathlib.Core.Option.none) m word)
memo_store_allowed start slots id slot word m live l size_is d q s r homes at fits =
    let n : ℕ = 2 ^ start.bits in
    let nodes : List ℕ = node_words start.bits s.words in
    let new : List ℕ = set s.words (n + slot) word in
    let same : take n new ≡ nodes = take-set-le n s.words (n + slot) word (omega arith) in
    let last : Option (ℕ × ℕ) = Some (slot, word) in
    let w : Known = sees_all m.0 nodes m.0.made 0 last in
    let at_slot : slot ≡ n + slot - length m.0.words = omega arith in
    let long = r.long in
    let here : n + slot < length s.words = omega arith in
    let stored : memo_word start.bits new slot ≡ word = (rw get_or-set_same refl) in
    let some_word : word ≢ 0 = memo_taken m.0.words slot word q in
    let on : (k : ℕ) → memo_word start.bits s.words k ≢ 0 → memo_word start.bits new k ≢ 0 = (λ k z. elim (cases_eq k slot) [
      | inl e ↦ (λ y. some_word (sym stored ∙ ap (λ (j : ℕ). memo_word start.bits new j) (sym e) ∙ y))
      | inr e ↦
          let other : n + k ≢ n + slot = (λ y. e (omega arith)) in
          let h : memo_word start.bits new k ≡ memo_word start.bits s.words k = rw get_or-set_other refl in
          (λ y. z (sym h ∙ y))
    ]) in
    let true_now : IsMemo nodes slot word = memo_stays m.0.words nodes slot word (r.nodes.seen id m.0 at live) d r.nodes.sound.distinct q in (
      w,
      keeps,
      tt,
      (record {
        long = length-set s.words (n + slot) word ∙ r.long;
        nodes = subst (λ (ws : List ℕ). NodesHold start ws (set s.views id w)) (sym same) (rule_after start nodes nodes s.views id m.0 m.0.made 0 last r.nodes at live (extends_itself nodes) r.nodes.sound refl);
        memo = λ k b z. subst (λ (ws : List ℕ). IsMemo ws k (memo_word start.bits new k)) (sym same) (elim (cases_eq k slot) [
          | inl e ↦
              let h : memo_word start.bits new k ≡ word = ap (λ (j : ℕ). get_or new (n + j) 0) e ∙ stored in
              subst (λ (j : ℕ). IsMemo nodes j (memo_word start.bits new k)) (sym e) (subst (λ (x : ℕ). IsMemo nodes slot x) (sym h) true_now)
          | inr e ↦
              let other : n + k ≢ n + slot = (λ y. e (omega arith)) in
              let h : memo_word start.bits new k ≡ memo_word start.bits s.words k = rw get_or-set_other refl in
              subst (λ (x : ℕ). IsMemo nodes k x) (sym h) (r.memo k b (λ y. z (h ∙ y)))
        ]);
        taken = all_taken_on start.bits s.words new s.views id w on (λ z y. z (sym stored ∙ y)) r.taken;
        alone = λ o i v e k. elim (at_set s.views id i w v e) [
          | inl t ↦ subst (λ (u : Known). IsStillThere start.bits new u.last) t.1 stored
          | inr t ↦ (let a = two_parts s.views i id v m.0 t.0 t.1 at in let b = r.nodes.parts_in_all in absurd (omega arith))
        ];
      }),
      (subst (λ (k : ℕ). StoresMemo k word m.0 w) at_slot (record { steps = looks start nodes s.views id m.0 0 last r.nodes at live; made = refl; last = refl }), refl),
    )

-- ---- node words
-- there are as many as the bits say
pub nodes_length : (bits : ℕ) (words : List ℕ) → length words ≡ 2 ^ bits + memo_slots → length (node_words bits words) ≡ 2 ^ bits
nodes_length bits words e = length-take-le (2 ^ bits) words (omega arith)

-- those of vacant words are vacant
pub vacant_nodes : (bits : ℕ) → node_words bits (replicate (2 ^ bits + memo_slots) zero) ≡ replicate (2 ^ bits) zero
vacant_nodes bits = take-replicate (2 ^ bits) _ zero (omega arith)

-- ---- what only turns views, and the beginning
pub split_all : {S : Type 0} (start : Start) (id : ℕ) (v : Known) → v.cut + 1 < v.parts → Splits {S = S} (Holds start) id v (left_of v) (right_of v)
split_all start id v c s r e = record { long = r.long; nodes = split_allowed start id v c (record { words = node_words start.bits s.words; homes = []; views = s.views }) r.nodes e; memo = r.memo; taken = all_taken_split; alone = all_there_split }
  where
    live : v.parts ≢ 0
    live = omega arith

    all_there_split : AllThere start s.words (set s.views id (left_of v) ++ right_of v ∷ [])
    all_there_split o i u h l = elim (at_snoc (set s.views id (left_of v)) (right_of v) u i h) [
      | inl h ↦ all_there_on start s.words s.words s.views id (left_of v) (λ k. refl) (λ o z. r.alone o id v e live) r.alone o i u h l
      | inr t ↦ subst (λ (k : Known). IsStillThere start.bits s.words k.last) t (r.alone o id v e live)
    ]

    all_taken_split : AllTaken start.bits s.words (set s.views id (left_of v) ++ right_of v ∷ [])
    all_taken_split i u h = elim (at_snoc (set s.views id (left_of v)) (right_of v) u i h) [
      | inl h ↦ all_taken_on start.bits s.words s.words s.views id (left_of v) (λ k z. z) (r.taken id v e) r.taken i u h
      | inr t ↦ subst (λ (k : Known). IsStillTaken start.bits s.words k.last) t (r.taken id v e)
    ]

pub join_all : {S : Type 0} (start : Start) (id other : ℕ) (v w : Known) → v.parts ≢ 0 → w.parts ≢ 0 → Joins {S = S} (Holds start) id v other w (both_of v w) spent
join_all start id other v w a b s r e n o = record { long = r.long; nodes = join_allowed start id other v w a b (record { words = node_words start.bits s.words; homes = []; views = s.views }) r.nodes e n o; memo = r.memo; taken = all_taken_on start.bits s.words s.words (set s.views id (both_of v w)) other spent (λ k z. z) tt (all_taken_on start.bits s.words s.words s.views id (both_of v w) (λ k z. z) (r.taken id v e) r.taken); alone = all_there_on start s.words s.words (set s.views id (both_of v w)) other spent (λ k. refl) (λ o z. absurd (z refl)) (all_there_on start s.words s.words s.views id (both_of v w) (λ k. refl) (λ o z. r.alone o id v e a) r.alone) }

-- a sound table meets the rule when it is opened: its only seat has seen all the words and has made no memo step
pub opening_all : {S : Type 0} (start : Start) (words : List ℕ) (homes : List (mathlib.Core.Option.Option S)) → start.seats < 2 ^ 32 → 1 ≤ start.seats → IsSoundTable start.bits start.words.items → words ≡ start.words.items
    → Holds start (record { words = words; homes = homes; views = first_view start ∷ [] })
opening_all start words homes h l t e = subst (λ (ws : List ℕ). Holds start (record { words = ws; homes = homes; views = first_view start ∷ [] })) (sym e) (record {
  long = t.size;
  nodes = opening_ruled start h l (nodes_length start.bits start.words.items t.size) t.nodes;
  memo = t.memo;
  taken = only;
  alone = λ o. only_there;
})
  where
    only : AllTaken start.bits start.words.items (first_view start ∷ [])
    only zero v e = subst (λ (k : Known). IsStillTaken start.bits start.words.items k.last) (some-injective _ v e) tt
    only (suc i) v e = absurd (some-ne-none v (sym e))

    only_there : (id : ℕ) (v : Known) → get_elem? (first_view start ∷ []) id ≡ some v → v.parts ≢ 0 → IsStillThere start.bits start.words.items v.last
    only_there zero v e l = subst (λ (k : Known). IsStillThere start.bits start.words.items k.last) (some-injective _ v e) tt
    only_there (suc i) v e l = absurd (some-ne-none v (sym e))

-- vacant words are those of a sound table
pub vacant_table : (bits : ℕ) → IsSoundTable bits (replicate (2 ^ bits + memo_slots) zero)
vacant_table bits = record {
  size = length-replicate _ zero;
  nodes = subst (λ (ws : List ℕ). IsSound ws) (sym (vacant_nodes bits)) (vacant_sound (2 ^ bits));
  memo = λ slot b z. absurd (z (vacant_at (2 ^ bits + memo_slots) _));
}

-- ---- steps on node words
pub load_all : (start : Start) (slots id place : ℕ) (m : Me (Unit {0}) Known) → m.0.parts ≢ 0 → place < 2 ^ start.bits → Allows (Holds start) slots id m place (λ n. n) (load_tells (step slots place 0 0 mathlib.Core.Option.none) m)
load_all start slots id place m live l = lift start slots id place m (λ n. n) (load_tells (step slots place 0 0 mathlib.Core.Option.none) m) l (λ x h. refl) (λ k n t. t.0.last) live (load_allowed start slots id place m live)

pub cut_all : (start : Start) (slots id place k : ℕ) (m : Me (Unit {0}) Known) → m.0.parts ≢ 0 → place < 2 ^ start.bits
    → Allows (Holds start) slots id m place (λ n. either (eqb n k) k n) (cut_tells (step slots place k k mathlib.Core.Option.none) m)
cut_all start slots id place k m live l = lift start slots id place m (λ n. either (eqb n k) k n) (cut_tells (step slots place k k mathlib.Core.Option.none) m) l (λ x h. same_number k x) (λ k n t. t.0.last) live (cut_allowed start slots id place k m live)

pub place_all : (start : Start) (slots id place word : ℕ) (m : Me (Unit {0}) Known) → m.0.parts ≢ 0 → IsNext m.0.words word place → word ≢ 0 → word < 2 ^ 64 → place < 2 ^ start.bits
    → Allows (Holds start) slots id m place (λ n. either (eqb n 0) word n) (place_tells (step slots place 0 word mathlib.Core.Option.none) m)
place_all start slots id place word m live p h f l =
    lift start slots id place m (λ n. either (eqb n 0) word n) (place_tells (step slots place 0 word mathlib.Core.Option.none) m) l (λ x z. ap (λ b. either b word x) (ne_eqb x 0 z)) (λ k n t. t.0.last) live
    (place_allowed start slots id place word m live p h f)

-- ---- the end
-- what the end tells the last seat of all words
pub record IsEndAll (start : Start) (v : Known) (words : List ℕ) : Type 0 where
  pub sound : IsSoundTable start.bits words
  pub nodes : IsEnd v (node_words start.bits words)

pub ended_all : {S : Type 0} (start : Start) (words : List ℕ) (xs : List S) (id : ℕ) (v : Known) → Final (Seen (Holds start) id v) words xs → v.parts ≡ start.seats → v.parts ≢ 0 → IsEndAll start v words
ended_all start words xs id v f p live =
    subst (λ (ws : List ℕ). IsEndAll start v ws) f.2
    (record {
      sound = record { size = f.1.0.long; nodes = f.1.0.nodes.sound; memo = f.1.0.memo };
      nodes = ended start (node_words start.bits f.0.words) f.0.views id v f.1.0.nodes f.1.1 p live;
    })

-- the slot of any seat's last memo step
pub taken_in_end : {S : Type 0} (start : Start) (words : List ℕ) (xs : List S) (id : ℕ) (v : Known) → Final (Seen (Holds start) id v) words xs → IsStillTaken start.bits words v.last
taken_in_end start words xs id v f = subst (λ (ws : List ℕ). IsStillTaken start.bits ws v.last) f.2 (f.1.0.taken id v f.1.1)

-- and its word, of the one seat
pub there_in_end : {S : Type 0} (start : Start) (words : List ℕ) (xs : List S) (id : ℕ) (v : Known) → Final (Seen (Holds start) id v) words xs → start.seats ≡ 1 → v.parts ≢ 0 → IsStillThere start.bits words v.last
there_in_end start words xs id v f o l = subst (λ (ws : List ℕ). IsStillThere start.bits ws v.last) f.2 (f.1.0.alone o id v f.1.1 l)
