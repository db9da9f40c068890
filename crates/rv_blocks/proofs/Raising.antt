-- Versions only grow: what is noted on the way is no more than in the end.
use Rattle.std.proofs.Common.{◌≡◌, ◌≤◌, ◌<◌, ◌+◌, ◌^◌, ◌∙◌, ℕ, cond, List, [], ◌∷◌, length, drop, get_or, Option, Some, None, unwrap_or, refl, sym, ap, subst, arith, inl, inr}
use Rattle.std.specs.Ordering.{eq_by_cmp}
use Rattle.std.proofs.lemmas.Bool.{cases_Bool}
use Rattle.std.proofs.lemmas.List.{drop_more}
use Rattle.run_model.specs.Names.{compare, lookup, set}
use Rattle.run_model.specs.Versions.{Versions, number_or_0, noted, raised, all_raised}
use Rattle.run_model.proofs.Ordering.{names_laws, one_name, same_name}

-- to raise one name lowers no number: that name has 1 more, and any other keeps its own
raised-grows : (other : List ℕ) (v : Versions) (name : List ℕ) → noted v name ≤ noted (raised other v) name
raised-grows other v name =
    let e = ap number_or_0 (names_laws.set_name name other (noted v other + 1) v) in
    elim (cases_Bool (eq_by_cmp compare name other)) [
      | inl t ↦
          let f = ap (λ b. number_or_0 (cond b (Some (noted v other + 1)) (lookup v name))) t in
          let g = ap (noted v) (one_name name other t) in
          omega (arith, e, f, g)
      | inr t ↦
          let f = ap (λ b. number_or_0 (cond b (Some (noted v other + 1)) (lookup v name))) t in
          omega (arith, e, f)
    ]

all_raised-grows : (names : List (List ℕ)) (v : Versions) (name : List ℕ) → noted v name ≤ noted (all_raised names v) name
all_raised-grows [] v name = omega arith
all_raised-grows (n ∷ ns) v name =
    let a = raised-grows n v name in let b = all_raised-grows ns (raised n v) name in omega (arith, a, b)

-- the name that is raised next has a number below the last
pub next_fits : (n : List ℕ) (ns : List (List ℕ)) (v : Versions) → ((name : List ℕ) → noted (all_raised (n ∷ ns) v) name < 2 ^ 64)
    → noted v n + 1 < 2 ^ 64
next_fits n ns v fits =
    let a = all_raised-grows ns (raised n v) n in
    let b = fits n in
    let e = ap number_or_0 (names_laws.set_name n n (noted v n + 1) v)
    ∙ ap (λ b. number_or_0 (cond b (Some (noted v n + 1)) (lookup v n))) (same_name n) in
    omega (arith, a, b, e)

-- the number of a name, as the code reads it
pub noted-read : (o : Option ℕ) → unwrap_or o 0 ≡ number_or_0 o
noted-read None = refl
noted-read (Some n) = refl

-- one name more is raised
pub raise_step : (names : List (List ℕ)) (i : ℕ) (n : List ℕ) (first v w : Versions) (k : ℕ) → i < length names → n ≡ get_or names i n
    → k ≡ noted v n → w ≡ set n (k + 1) v → all_raised names first ≡ all_raised (drop i names) v
    → all_raised names first ≡ all_raised (drop (i + 1) names) w
raise_step names i n first v w k l at e is h =
    h ∙ ap (λ ns. all_raised ns v) (drop_more names i n l ∙ ap (λ x. x ∷ drop (i + 1) names) (sym at))
    ∙ ap (all_raised (drop (i + 1) names)) (sym (is ∙ ap (λ x. set n (x + 1) v) e))

-- and its number fits
pub step_fits : (names : List (List ℕ)) (i : ℕ) (n : List ℕ) (first v : Versions) (k : ℕ) → i < length names → n ≡ get_or names i n
    → k ≡ noted v n → all_raised names first ≡ all_raised (drop i names) v → ((name : List ℕ) → noted (all_raised names first) name < 2 ^ 64)
    → k + 1 < 2 ^ 64
step_fits names i n first v k l at e h fits =
    let same : all_raised names first ≡ all_raised (n ∷ drop (i + 1) names) v =
    h ∙ ap (λ ns. all_raised ns v) (drop_more names i n l ∙ ap (λ x. x ∷ drop (i + 1) names) (sym at)) in
    let f = next_fits n (drop (i + 1) names) v (λ name. subst (λ m. noted m name < 2 ^ 64) same (fits name)) in
    omega (arith, f, e)

-- few names raise none by much
raised-one : (other : List ℕ) (v : Versions) (name : List ℕ) → noted (raised other v) name ≤ noted v name + 1
raised-one other v name =
    let e = ap number_or_0 (names_laws.set_name name other (noted v other + 1) v) in
    elim (cases_Bool (eq_by_cmp compare name other)) [
      | inl t ↦
          let f = ap (λ b. number_or_0 (cond b (Some (noted v other + 1)) (lookup v name))) t in
          let g = ap (noted v) (one_name name other t) in
          omega (arith, e, f, g)
      | inr t ↦
          let f = ap (λ b. number_or_0 (cond b (Some (noted v other + 1)) (lookup v name))) t in
          omega (arith, e, f)
    ]

pub all_raised-few : (names : List (List ℕ)) (v : Versions) (name : List ℕ) → noted (all_raised names v) name ≤ noted v name + length names
all_raised-few [] v name = omega arith
all_raised-few (n ∷ ns) v name =
    let a = raised-one n v name in let b = all_raised-few ns (raised n v) name in omega (arith, a, b)
