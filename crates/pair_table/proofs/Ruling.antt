-- Each step on a node word keeps the rule of the node words.
-- 1. A step lets its seat see all words of that moment, so its new view extends to the words at once (`rule_after`). What other seats have seen stays seen, since words are only added.
-- 2. A load, or a compare-exchange that fails, changes no word (`look_after`, `load_allowed`, `cut_allowed`).
-- 3. A compare-exchange that succeeds places a word at a vacant place behind places that hold other words: the words stay sound, and both the seat's count and the count of all stored words rise by one (`place_allowed`).
-- 4. A split cuts the number of seats for which a view stands in two, a join adds the numbers (`split_allowed`, `join_allowed`).
-- 5. In the end one seat stands for all, so the others, which stand for none, made nothing, and its count is that of all stored words (`ended`).
use Rattle.std.proofs.Common.{◌≡◌, ◌<◌, ◌≤◌, ◌≢◌, ◌+◌, ◌-◌, ◌^◌, eqb, zero, suc, ℕ, List, [], ◌∷◌, ◌++◌, length, set, refl, sym, ap, subst, ◌∙◌, inl, inr, arith, get_or, Option}
use Rattle.std.proofs.lemmas.Bool.{cases_Bool, eqb-true, eq-eqb, ne_eqb}
use mathlib.Core.Option.{some, some-injective, some-ne-none}
use lib.ListN.{get_elem?}
use prog.Atomic.{either}
use Rattle.atomic_table.specs.Table.{State, Me, step, keeps, Allows, Splits, Joins}
use Rattle.atomic_table.proofs.Lists.{at_set, at_snoc}
use Rattle.rel_model.specs.Words.{Extends, IsSound, place_at, stored_count}
use Rattle.rel_model.specs.Equations.{node_words}
use Rattle.rel_model.proofs.NamesStand.{extends_on}
use Rattle.pair_table.specs.declared.rule.Known.{Known}
use Rattle.pair_table.specs.declared.rule.Start.{Start}
use Rattle.pair_table.specs.Probe.{Passed, IsNext}
use Rattle.pair_table.specs.Rule.{total, first_view, NodesHold, left_of, right_of, both_of, spent}
use Rattle.pair_table.specs.Tells.{Steps, load_tells, place_tells, cut_tells}
use Rattle.pair_table.proofs.Placing.{IsFree, placed_set, placed_extends, placed_sound, placed_count, nowhere, cases_eq}

-- the rule of the node words alone, of a table without others
abbrev pub NodesOf : {S : Type 0} → Start → State S Known → Type 0
NodesOf start s = NodesHold start s.words s.views

-- a view that has seen all words
abbrev pub sees_all : Known → List ℕ → ℕ → ℕ → Option (ℕ × ℕ) → Known
sees_all v words made cut last = record { words = words; told = words; made = made; parts = v.parts; cut = cut; last = last }

-- words extend themselves
pub extends_itself : (words : List ℕ) → Extends words words
extends_itself words = record { same_length = refl; kept = λ n h. refl }

-- writing back what stands changes nothing
pub set_back : (words : List ℕ) (n : ℕ) → set words n (get_or words n 0) ≡ words
set_back [] n = refl
set_back (w ∷ ws) zero = refl
set_back (w ∷ ws) (suc n) = ap (λ (xs : List ℕ). w ∷ xs) (set_back ws n)

-- the total when one view changes
total_set : (f : Known → ℕ) (views : List Known) (id : ℕ) (v w : Known) → get_elem? views id ≡ some v → total f (set views id w) + f v ≡ total f views + f w
total_set f [] id v w e = absurd (some-ne-none v (sym e))
total_set f (x ∷ xs) zero v w e = let h : f x ≡ f v = ap f (some-injective x v e) in omega arith
total_set f (x ∷ xs) (suc id) v w e = let h = total_set f xs id v w e in omega arith

-- the total when one view is added
more : (f : Known → ℕ) (views : List Known) (w : Known) → total f (views ++ w ∷ []) ≡ total f views + f w
more f [] w = omega arith
more f (v ∷ vs) w = let h = more f vs w in omega arith

-- one view's number is at most the total
pub at_most : (f : Known → ℕ) (views : List Known) (id : ℕ) (v : Known) → get_elem? views id ≡ some v → f v ≤ total f views
at_most f [] id v e = absurd (some-ne-none v (sym e))
at_most f (x ∷ xs) zero v e = let h : f x ≡ f v = ap f (some-injective x v e) in omega arith
at_most f (x ∷ xs) (suc id) v e = let h = at_most f xs id v e in omega arith

-- ---- a seat's own step
-- after a step its seat has seen all words
pub rule_after : (start : Start) (old new : List ℕ) (views : List Known) (id : ℕ) (v : Known) (made cut : ℕ) (last : Option (ℕ × ℕ)) → NodesHold start old views → get_elem? views id ≡ some v → v.parts ≢ 0
    → Extends old new → IsSound new → made + stored_count old ≡ v.made + stored_count new → NodesHold start new (set views id (sees_all v new made cut last))
rule_after start old new views id v made cut last r e live x s m =
    let w : Known = sees_all v new made cut last in
    record {
      size_is = x.same_length ∙ r.size_is;
      sound = s;
      seen = λ i u h l. elim (at_set views id i w u h) [
        | inl t ↦ subst (λ (k : Known). Extends k.words new) t.1 (extends_itself new)
        | inr t ↦ extends_on u.words old new (r.seen i u t.1 l) x
      ];
      told = λ i u h l. elim (at_set views id i w u h) [
        | inl t ↦ subst (λ (k : Known). Extends k.told new) t.1 (extends_itself new)
        | inr t ↦ extends_on u.told old new (r.told i u t.1 l) x
      ];
      idle = λ i u h z. elim (at_set views id i w u h) [
        | inl t ↦ absurd (live (ap (λ (k : Known). k.parts) t.1 ∙ z))
        | inr t ↦ r.idle i u t.1 z
      ];
      made_in_all = (let a = total_set (λ k. k.made) views id v w e in let b = r.made_in_all in omega arith);
      parts_in_all = (let a = total_set (λ k. k.parts) views id v w e in let b = r.parts_in_all in omega arith);
      few = r.few;
    }

-- a step that changes no word
pub look_after : (start : Start) (words : List ℕ) (views : List Known) (id place : ℕ) (v : Known) (cut n : ℕ) → NodesHold start words views → get_elem? views id ≡ some v → v.parts ≢ 0 → n ≡ get_or words place 0
    → NodesHold start (set words place n) (set views id (sees_all v words v.made cut v.last))
look_after start words views id place v cut n r e live h =
    subst (λ (ws : List ℕ). NodesHold start ws (set views id (sees_all v words v.made cut v.last))) (sym (ap (set words place) h ∙ set_back words place))
    (rule_after start words words views id v v.made cut v.last r e live (extends_itself words) r.sound refl)

-- what it tells
pub looks : (start : Start) (words : List ℕ) (views : List Known) (id : ℕ) (v : Known) (cut : ℕ) (last : Option (ℕ × ℕ)) → NodesHold start words views → get_elem? views id ≡ some v → v.parts ≢ 0
    → Steps v (sees_all v words v.made cut last)
looks start words views id v cut last r e live = record { seen = r.seen id v e live; canonical = r.sound.distinct; parts = refl }

few_parts : (start : Start) (words : List ℕ) (views : List Known) (id : ℕ) (v : Known) → NodesHold start words views → get_elem? views id ≡ some v → v.parts < 2 ^ 32
few_parts start words views id v r e = let a = at_most (λ k. k.parts) views id v e in let b = r.parts_in_all in let c = r.few in omega arith

-- a load
pub load_allowed : (start : Start) (slots id place : ℕ) (m : Me (Unit {0}) Known) → m.0.parts ≢ 0 → Allows (NodesOf start) slots id m place (λ n. n) (load_tells (step slots place 0 0 mathlib.Core.Option.none) m)
load_allowed start slots id place m live s r homes at fits = (
  sees_all m.0 s.words m.0.made 0 m.0.last,
  keeps,
  tt,
  look_after start s.words s.views id place m.0 0 _ r at live refl,
  (
    record {
      steps = looks start s.words s.views id m.0 0 m.0.last r at live;
      told = r.told id m.0 at live;
      few = few_parts start s.words s.views id m.0 r at;
      there = refl;
      made = refl;
      last = refl;
    },
    refl,
  ),
)

-- a compare-exchange of a number by itself changes nothing
pub same_number : (k n : ℕ) → either (eqb n k) k n ≡ n
same_number k n = elim (cases_Bool (eqb n k)) [ inl e ↦ ap (λ b. either b k n) e ∙ sym (eqb-true n k e) | inr e ↦ ap (λ b. either b k n) e ]

-- it tells the number to the view
pub cut_allowed : (start : Start) (slots id place k : ℕ) (m : Me (Unit {0}) Known) → m.0.parts ≢ 0 → Allows (NodesOf start) slots id m place (λ n. either (eqb n k) k n) (cut_tells (step slots place k k mathlib.Core.Option.none) m)
cut_allowed start slots id place k m live s r homes at fits = (
  sees_all m.0 s.words m.0.made k m.0.last,
  keeps,
  tt,
  look_after start s.words s.views id place m.0 k _ r at live (same_number k (get_or s.words place 0)),
  (record { steps = looks start s.words s.views id m.0 k m.0.last r at live; cut = refl; made = refl; last = refl }, refl),
)

-- ---- a compare-exchange from 0
-- places that were passed in a view hold other words in the table
pub passed_on : (old new : List ℕ) → Extends old new → (word t : ℕ) → Passed old word t → Passed new word t
passed_on old new x word t p s l =
    let a = p s l in
    let e : get_or new (place_at (length new) word s) 0 ≡ get_or old (place_at (length old) word s) 0 =
    ap (λ (k : ℕ). get_or new (place_at k word s) 0) x.same_length ∙ x.kept _ a.0 in
    ((λ z. a.0 (sym e ∙ z)), (λ z. a.1 (sym e ∙ z)))

-- where the place is vacant in the table, it is free for the word there
free_in : (old new : List ℕ) → Extends old new → (word n : ℕ) → IsNext old word n → get_or new n 0 ≡ 0 → IsFree new word n
free_in old new x word n p z = record {
  next = record {
    low = p.low;
    high = subst (λ (k : ℕ). n < k) (sym x.same_length) p.high;
    steps = p.steps;
    here = p.here ∙ ap (λ (k : ℕ). place_at k word p.steps) (sym x.same_length);
    passed = passed_on old new x word p.steps p.passed;
  };
  vacant = z;
}

-- the word is placed where 0 is found, and else nothing changes
pub place_allowed : (start : Start) (slots id place word : ℕ) (m : Me (Unit {0}) Known) → m.0.parts ≢ 0 → IsNext m.0.words word place → word ≢ 0 → word < 2 ^ 64
    → Allows (NodesOf start) slots id m place (λ n. either (eqb n 0) word n) (place_tells (step slots place 0 word mathlib.Core.Option.none) m)
place_allowed start slots id place word m live p h l s r homes at fits = elim (cases_eq (get_or s.words place 0) 0) [
  | inl z ↦
      let x = r.seen id m.0 at live in
      let q = free_in m.0.words s.words x word place p z in
      let new = set s.words place word in
      let d = placed_set s.words place word q.next.high z in
      let y = placed_extends s.words new place word d in
      let g = placed_sound s.words new word place r.sound q d h l in
      let count = placed_count s.words place word q.next.high z h in
      let w : Known = sees_all m.0 new (m.0.made + 1) 0 m.0.last in
      let found : either (eqb (get_or s.words place 0) 0) word (get_or s.words place 0) ≡ word = ap (λ b. either b word (get_or s.words place 0)) (eq-eqb _ 0 z) in (
        w,
        keeps,
        tt,
        subst (λ (k : ℕ). NodesHold start (set s.words place k) (set s.views id w)) (sym found) (rule_after start s.words new s.views id m.0 (m.0.made + 1) 0 m.0.last r at live y g (omega (arith, count))),
        (
          record {
            steps = record { seen = extends_on _ _ _ x y; canonical = g.distinct; parts = refl };
            lost = λ k. absurd (k z);
            won = λ _. (d.there, refl);
            absent = λ _ n e. nowhere s.words word place r.sound q h n (x.kept n (λ k. h (sym e ∙ k)) ∙ e);
            last = refl;
          },
          refl,
        ),
      )
  | inr z ↦
      let found : either (eqb (get_or s.words place 0) 0) word (get_or s.words place 0) ≡ get_or s.words place 0 = ap (λ b. either b word (get_or s.words place 0)) (ne_eqb _ 0 z) in (
        sees_all m.0 s.words m.0.made 0 m.0.last,
        keeps,
        tt,
        look_after start s.words s.views id place m.0 0 _ r at live found,
        (
          record {
            steps = looks start s.words s.views id m.0 0 m.0.last r at live;
            lost = λ k. (refl, refl);
            won = λ k. absurd (z k);
            absent = λ k. absurd (z k);
            last = refl;
          },
          refl,
        ),
      )
]

-- ---- splitting and joining
pub split_allowed : (start : Start) (id : ℕ) (v : Known) → v.cut + 1 < v.parts → Splits {S = Unit {0}} (NodesOf start) id v (left_of v) (right_of v)
split_allowed start id v c s r e =
    let l : v.parts ≢ 0 = omega arith in
    let both = set s.views id (left_of v) in
    record {
      size_is = r.size_is;
      sound = r.sound;
      seen = λ i u h k. elim (at_snoc both (right_of v) u i h) [
        | inl h ↦ elim (at_set s.views id i (left_of v) u h) [
          | inl t ↦ subst (λ (k : Known). Extends k.words s.words) t.1 (r.seen id v e l)
          | inr t ↦ r.seen i u t.1 k
        ]
        | inr t ↦ subst (λ (k : Known). Extends k.words s.words) t (r.seen id v e l)
      ];
      told = λ i u h k. elim (at_snoc both (right_of v) u i h) [
        | inl h ↦ elim (at_set s.views id i (left_of v) u h) [
          | inl t ↦ subst (λ (k : Known). Extends k.told s.words) t.1 (r.told id v e l)
          | inr t ↦ r.told i u t.1 k
        ]
        | inr t ↦ subst (λ (k : Known). Extends k.told s.words) t (r.told id v e l)
      ];
      idle = λ i u h z. elim (at_snoc both (right_of v) u i h) [
        | inl h ↦ elim (at_set s.views id i (left_of v) u h) [
          | inl t ↦ (let p : v.parts - (v.cut + 1) ≡ 0 = ap (λ (k : Known). k.parts) t.1 ∙ z in omega arith)
          | inr t ↦ r.idle i u t.1 z
        ]
        | inr t ↦ sym (ap (λ (k : Known). k.made) t)
      ];
      made_in_all = (let a = total_set (λ k. k.made) s.views id v (left_of v) e in let b = r.made_in_all in let d = more (λ k. k.made) both (right_of v) in omega arith);
      parts_in_all = (let a = total_set (λ k. k.parts) s.views id v (left_of v) e in let b = r.parts_in_all in let d = more (λ k. k.parts) both (right_of v) in omega arith);
      few = r.few;
    }

-- a join keeps the rule of the node words: the joined view has seen only what its two parts have seen, and the totals
-- stay, as their numbers are added up
pub join_allowed : (start : Start) (id other : ℕ) (v w : Known) → v.parts ≢ 0 → w.parts ≢ 0 → Joins {S = Unit {0}} (NodesOf start) id v other w (both_of v w) spent
join_allowed start id other v w live also s r e apart o =
    let views = set s.views id (both_of v w) in
    let ow : get_elem? s.views other ≡ some w = elim (at_set s.views id other (both_of v w) w o) [ inl t ↦ absurd (apart t.0) | inr t ↦ t.1 ] in
    record {
      size_is = r.size_is;
      sound = r.sound;
      seen = λ i u h k. elim (at_set views other i spent u h) [
        | inl t ↦ absurd (k (sym (ap (λ (k : Known). k.parts) t.1)))
        | inr t ↦ elim (at_set s.views id i (both_of v w) u t.1) [
          | inl t ↦ subst (λ (k : Known). Extends k.words s.words) t.1 (r.seen id v e live)
          | inr t ↦ r.seen i u t.1 k
        ]
      ];
      told = λ i u h k. elim (at_set views other i spent u h) [
        | inl t ↦ absurd (k (sym (ap (λ (k : Known). k.parts) t.1)))
        | inr t ↦ elim (at_set s.views id i (both_of v w) u t.1) [
          | inl t ↦ subst (λ (k : Known). Extends k.told s.words) t.1 (r.seen other w ow also)
          | inr t ↦ r.told i u t.1 k
        ]
      ];
      idle = λ i u h z. elim (at_set views other i spent u h) [
        | inl t ↦ sym (ap (λ (k : Known). k.made) t.1)
        | inr t ↦ elim (at_set s.views id i (both_of v w) u t.1) [
          | inl t ↦ absurd (let p : v.parts + w.parts ≡ 0 = ap (λ (k : Known). k.parts) t.1 ∙ z in live (omega arith))
          | inr t ↦ r.idle i u t.1 z
        ]
      ];
      made_in_all = (let a = total_set (λ k. k.made) s.views id v (both_of v w) e in let b = r.made_in_all in let d = total_set (λ k. k.made) views other w spent o in omega arith);
      parts_in_all = (let a = total_set (λ k. k.parts) s.views id v (both_of v w) e in let b = r.parts_in_all in let d = total_set (λ k. k.parts) views other w spent o in omega arith);
      few = r.few;
    }

-- ---- the beginning and the end
-- a table with sound words and one seat, which has seen them all
pub opening_ruled : (start : Start) → start.seats < 2 ^ 32 → 1 ≤ start.seats → length (node_words start.bits start.words.items) ≡ 2 ^ start.bits → IsSound (node_words start.bits start.words.items)
    → NodesHold start (node_words start.bits start.words.items) (first_view start ∷ [])
opening_ruled start h l e s =
    let words : List ℕ = node_words start.bits start.words.items in
    record {
      size_is = e;
      sound = s;
      seen = λ i v e l. subst (λ (k : Known). Extends k.words words) (only i v e) (extends_itself words);
      told = λ i v e l. subst (λ (k : Known). Extends k.told words) (only i v e) (extends_itself words);
      idle = λ i v e z. absurd (let p : start.seats ≡ 0 = ap (λ (k : Known). k.parts) (only i v e) ∙ z in omega arith);
      made_in_all = omega arith;
      parts_in_all = omega arith;
      few = h;
    }
  where
    only : (i : ℕ) (v : Known) → get_elem? (first_view start ∷ []) i ≡ some v → first_view start ≡ v
    only zero v e = some-injective _ v e
    only (suc i) v e = absurd (some-ne-none v (sym e))

none_made : (views : List Known) → ((i : ℕ) (v : Known) → get_elem? views i ≡ some v → v.parts ≡ 0 → v.made ≡ 0) → total (λ v. v.parts) views ≡ 0 → total (λ v. v.made) views ≡ 0
none_made [] h z = refl
none_made (x ∷ xs) h z = let a = h 0 x refl (omega arith) in let b = none_made xs (λ i. h (suc i)) (omega arith) in omega arith

-- where one seat stands for all, it made all
one_made : (views : List Known) (id : ℕ) (v : Known) → get_elem? views id ≡ some v → ((i : ℕ) (v : Known) → get_elem? views i ≡ some v → v.parts ≡ 0 → v.made ≡ 0) → total (λ v. v.parts) views ≡ v.parts → total (λ v. v.made) views ≡ v.made
one_made [] id v e h z = absurd (some-ne-none v (sym e))
one_made (x ∷ xs) zero v e h z =
    let p : x.parts ≡ v.parts = ap (λ (k : Known). k.parts) (some-injective x v e) in
    let m : x.made ≡ v.made = ap (λ (k : Known). k.made) (some-injective x v e) in
    let b = none_made xs (λ i. h (suc i)) (omega arith) in
    omega arith
one_made (x ∷ xs) (suc id) v e h z =
    let l = at_most (λ k. k.parts) xs id v e in
    let a = h 0 x refl (omega arith) in
    let b = one_made xs id v e (λ i. h (suc i)) (omega arith) in
    omega arith

-- what the end tells the last seat
pub record IsEnd (v : Known) (words : List ℕ) : Type 0 where
  pub sound : IsSound words
  pub seen : Extends v.words words
  pub counted : stored_count words ≡ v.made

pub ended : (start : Start) (words : List ℕ) (views : List Known) (id : ℕ) (v : Known) → NodesHold start words views → get_elem? views id ≡ some v → v.parts ≡ start.seats → v.parts ≢ 0 → IsEnd v words
ended start words views id v r e p live = record {
  sound = r.sound;
  seen = r.seen id v e live;
  counted = sym r.made_in_all ∙ one_made views id v e r.idle (r.parts_in_all ∙ sym p);
}
