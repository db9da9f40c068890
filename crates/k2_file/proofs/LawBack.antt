-- Bits that fit, have no group without a set bit, and choose the cells of a relation, are those of its tree.
-- 1. From below: each submatrix that stands has a chosen cell, and each chosen cell lies in one that stands.
-- 2. A quarter whose bit is not set is apart from the chosen ones, so it has no cell. So the bits say which quarters have one.
-- 3. A group has a set bit, so its submatrix has a cell: the same holds one level up.
use Rattle.std.proofs.Common.{◌≡◌, ◌||◌, ◌+◌, ◌*◌, ◌⊎◌, ℕ, zero, suc, Bool, true, false, cond, List, [], ◌∷◌, ◌++◌, length, map, Option, Some, None, refl, ap, ◌∙◌, inl, inr, arith}
use Rattle.std.specs.List.{list_any, flat_map, AllByRecursion}
use Rattle.std.proofs.lemmas.Bool.{or_left, or_right, or_cases, false≢true, false_from_ne_true}
use Rattle.rel_model.proofs.Grid.{all-weaker}
use Rattle.run_model.specs.Files.{Corner, quarters, zero_group, chosen}
use Rattle.k2_file.proofs.ReadApart.{Apart, Covers, AreApart, all-chosen, covers-quarters}
use Rattle.k2_file.proofs.LawTree.{lies, lies-in, in-lies, any-quarter}
use Rattle.k2_file.proofs.LawRelation.{any-all}

-- what holds of those that are not chosen
abbrev Unchosen : (Corner → Type 0) → List Corner → List Bool → Type 0
Unchosen P [] bits = Unit {0}
Unchosen P (q ∷ qs) [] = Unit {0}
Unchosen P (q ∷ qs) (true ∷ bits) = Unchosen P qs bits
Unchosen P (q ∷ qs) (false ∷ bits) = P q × Unchosen P qs bits

unchosen-map : (A P Q : Corner → Type 0) → ((q : Corner) → A q → P q → Q q) → (qs : List Corner) (bits : List Bool) → AllByRecursion A qs → Unchosen P qs bits → Unchosen Q qs bits
unchosen-map A P Q f [] bits a h = tt
unchosen-map A P Q f (q ∷ qs) [] a h = tt
unchosen-map A P Q f (q ∷ qs) (true ∷ bits) a h = unchosen-map A P Q f qs bits a.1 h
unchosen-map A P Q f (q ∷ qs) (false ∷ bits) a h = (f q a.0 h.0, unchosen-map A P Q f qs bits a.1 h.1)

-- those that are not chosen are apart from the chosen ones
unchosen-apart : (side : ℕ) (qs : List Corner) (bits : List Bool) → AreApart side qs → Unchosen (λ q. AllByRecursion (Apart side q) (chosen qs bits)) qs bits
unchosen-apart side [] bits h = tt
unchosen-apart side (q ∷ qs) [] h = tt
unchosen-apart side (q ∷ qs) (true ∷ bits) h =
    unchosen-map (λ x. Apart side q x) (λ x. AllByRecursion (Apart side x) (chosen qs bits)) (λ x. AllByRecursion (Apart side x) (q ∷ chosen qs bits))
    (λ x a p. ((λ i j u v. a i j v u), p)) qs bits h.0 (unchosen-apart side qs bits h.1)
unchosen-apart side (q ∷ qs) (false ∷ bits) h = (all-chosen (Apart side q) qs bits h.0, unchosen-apart side qs bits h.1)

-- where all chosen ones pass a test and all others fail it, the test tells the bits, by induction along both lists
map-bits : (m : Corner → Bool) (qs : List Corner) (bits : List Bool) → length bits ≡ length qs → AllByRecursion (λ q. m q ≡ true) (chosen qs bits)
    → Unchosen (λ q. m q ≡ false) qs bits → map m qs ≡ bits
map-bits m [] [] l h u = refl
map-bits m [] (b ∷ bits) l h u = absurd (omega (arith, l))
map-bits m (q ∷ qs) [] l h u = absurd (omega (arith, l))
map-bits m (q ∷ qs) (true ∷ bits) l h u = ap (λ b. b ∷ map m qs) h.0 ∙ ap (λ bs. true ∷ bs) (map-bits m qs bits (omega (arith, l)) h.1 u)
map-bits m (q ∷ qs) (false ∷ bits) l h u = ap (λ b. b ∷ map m qs) u.0 ∙ ap (λ bs. false ∷ bs) (map-bits m qs bits (omega (arith, l)) h u.1)

-- whether a cell of a list is in a submatrix
abbrev pub in_cells : List Corner → ℕ → Corner → Bool
in_cells S side p = list_any (lies side p) S

-- each of a list has a cell, and each cell is in one of them
abbrev pub HaveCells : List Corner → ℕ → List Corner → Type 0
HaveCells S side ps = AllByRecursion (λ p. in_cells S side p ≡ true) ps

abbrev pub Owned : List Corner → ℕ → List Corner → Type 0
Owned S side ps = AllByRecursion (λ x. list_any (λ p. lies side p x) ps ≡ true) S

-- ---- one level: the bits say which quarters have a cell
no-cell : (S : List Corner) (side : ℕ) (C : List Corner) → Owned S side C → (q : Corner) → AllByRecursion (Apart side q) C → in_cells S side q ≡ false
no-cell S side C own q a = false_from_ne_true (in_cells S side q) impossible
  where
    impossible : in_cells S side q ≡ true → ⊥
    impossible h =
        let x = any-all (lies side q) (λ x. list_any (λ p. lies side p x) C ≡ true) S own h in
        let c = any-all (λ p. lies side p x.0) (Apart side q) C a x.2 in
        c.2 x.0.0 x.0.1 (lies-in side q x.0 x.1) (lies-in side c.0 x.0 c.1)

every : (A : Corner → Type 0) → ((q : Corner) → A q) → (qs : List Corner) → AllByRecursion A qs
every A f [] = tt
every A f (q ∷ qs) = (f q, every A f qs)

pub level-bits : (S : List Corner) (side : ℕ) (qs : List Corner) (bits : List Bool) → length bits ≡ length qs → AreApart side qs → HaveCells S side (chosen qs bits) → Owned S side (chosen qs bits)
    → map (in_cells S side) qs ≡ bits
level-bits S side qs bits l a have own =
    map-bits (in_cells S side) qs bits l have
    (unchosen-map (λ q. Unit {0}) (λ q. AllByRecursion (Apart side q) (chosen qs bits)) (λ q. in_cells S side q ≡ false)
    (λ q t h. no-cell S side (chosen qs bits) own q h) qs bits (every (λ q. Unit {0}) (λ q. tt) qs) (unchosen-apart side qs bits a))

-- ---- one level up
keep : (P : Corner → Type 0) (b : Bool) (q : Corner) (zs : List Corner) → AllByRecursion P (cond b (q ∷ zs) zs) → (b ≡ true → P q) × AllByRecursion P zs
keep P true q zs h = ((λ e. h.0), h.1)
keep P false q zs h = ((λ e. absurd (false≢true e)), h)

group-some : (t : Bool) (o : Option ℕ) (at : ℕ) → cond t o (Some at) ≡ None → (t ≡ true) × (o ≡ None)
group-some true o at h = (refl, h)
group-some false o at h = cc

-- behind so many groups
pub zero-rest : (n at : ℕ) (bits rest : List Bool) → length bits ≡ 4 * n → zero_group at (bits ++ rest) ≡ None → zero_group (at + 4 * n) rest ≡ None
zero-rest zero at [] rest l h = let e : at + 4 * 0 ≡ at = omega arith in ap (λ (m : ℕ). zero_group m rest) e ∙ h
zero-rest zero at (a ∷ bits) rest l h = absurd (omega (arith, l))
zero-rest (suc n) at [] rest l h = absurd (omega (arith, l))
zero-rest (suc n) at (a ∷ []) rest l h = absurd (omega (arith, l))
zero-rest (suc n) at (a ∷ b ∷ []) rest l h = absurd (omega (arith, l))
zero-rest (suc n) at (a ∷ b ∷ c ∷ []) rest l h = absurd (omega (arith, l))
zero-rest (suc n) at (a ∷ b ∷ c ∷ d ∷ bits) rest l h =
    let g = group-some (a || (b || (c || d))) (zero_group (at + 4) (bits ++ rest)) at h in
    let e : at + 4 * suc n ≡ at + 4 + 4 * n = omega arith in
    ap (λ (m : ℕ). zero_group m rest) e ∙ zero-rest n (at + 4) bits rest (omega (arith, l)) g.1

covered : (S : List Corner) (side : ℕ) (p q : Corner) → Covers side p q → in_cells S side q ≡ true → in_cells S (side + side) p ≡ true
covered S side p q c h = any-quarter (lies side q) (lies (side + side) p) (λ x e. in-lies (side + side) p x (c x.0 x.1 (lies-in side q x e))) S h

-- one level up each has a cell, by induction on the groups: a group has a set bit, so one of the quarters is chosen,
-- and its cell lies in the whole
pub have-up : (S : List Corner) (side : ℕ) (ps : List Corner) (at : ℕ) (bits rest : List Bool) → length bits ≡ 4 * length ps → zero_group at (bits ++ rest) ≡ None
    → HaveCells S side (chosen (flat_map (quarters side) ps) bits) → HaveCells S (side + side) ps
have-up S side [] at bits rest l z h = tt
have-up S side (p ∷ ps) at [] rest l z h = absurd (omega (arith, l))
have-up S side (p ∷ ps) at (a ∷ []) rest l z h = absurd (omega (arith, l))
have-up S side (p ∷ ps) at (a ∷ b ∷ []) rest l z h = absurd (omega (arith, l))
have-up S side (p ∷ ps) at (a ∷ b ∷ c ∷ []) rest l z h = absurd (omega (arith, l))
have-up S side (p ∷ ps) at (a ∷ b ∷ c ∷ d ∷ bits) rest l z h =
    let P : Corner → Type 0 = λ q. in_cells S side q ≡ true in
    let q1 : Corner = (p.0, p.1 + side) in
    let q2 : Corner = (p.0 + side, p.1) in
    let q3 : Corner = (p.0 + side, p.1 + side) in
    let z3 = chosen (flat_map (quarters side) ps) bits in
    let z2 = cond d (q3 ∷ z3) z3 in
    let z1 = cond c (q2 ∷ z2) z2 in
    let z0 = cond b (q1 ∷ z1) z1 in
    let k0 = keep P a p z0 h in
    let k1 = keep P b q1 z1 k0.1 in
    let k2 = keep P c q2 z2 k1.1 in
    let k3 = keep P d q3 z3 k2.1 in
    let cs = covers-quarters side p in
    let g = group-some (a || (b || (c || d))) (zero_group (at + 4) (bits ++ rest)) at z in
    let one : in_cells S (side + side) p ≡ true = elim (or_cases a (b || (c || d)) g.0) [
      | inl t ↦ covered S side p p cs.0 (k0.0 t)
      | inr u ↦ elim (or_cases b (c || d) u) [
        | inl t ↦ covered S side p q1 cs.1.0 (k1.0 t)
        | inr w ↦ elim (or_cases c d w) [
          | inl t ↦ covered S side p q2 cs.1.1.0 (k2.0 t)
          | inr t ↦ covered S side p q3 cs.1.1.1.0 (k3.0 t)
        ]
      ]
    ] in
    (one, have-up S side ps (at + 4) bits rest (omega (arith, l)) g.1 k3.1)

any-chosen : (g : Corner → Bool) (qs : List Corner) (bits : List Bool) → list_any g (chosen qs bits) ≡ true → list_any g qs ≡ true
any-chosen g [] bits h = h
any-chosen g (q ∷ qs) [] h = absurd (false≢true h)
any-chosen g (q ∷ qs) (true ∷ bits) h = elim (or_cases (g q) (list_any g (chosen qs bits)) h) [
  | inl t ↦ or_left (g q) (list_any g qs) t
  | inr t ↦ or_right (g q) (list_any g qs) (any-chosen g qs bits t)
]
any-chosen g (q ∷ qs) (false ∷ bits) h = or_right (g q) (list_any g qs) (any-chosen g qs bits h)

any-split : (g : Corner → Bool) (xs ys : List Corner) → list_any g (xs ++ ys) ≡ true → (list_any g xs ≡ true) ⊎ (list_any g ys ≡ true)
any-split g [] ys h = inr h
any-split g (x ∷ xs) ys h = elim (or_cases (g x) (list_any g (xs ++ ys)) h) [
  | inl t ↦ inl (or_left (g x) (list_any g xs) t)
  | inr t ↦ elim (any-split g xs ys t) [ inl u ↦ inl (or_right (g x) (list_any g xs) u) | inr u ↦ inr u ]
]

any-whole : (side : ℕ) (x : Corner) (ps : List Corner) → list_any (λ s. lies side s x) (flat_map (quarters side) ps) ≡ true → list_any (λ p. lies (side + side) p x) ps ≡ true
any-whole side x [] h = absurd (false≢true h)
any-whole side x (p ∷ ps) h = elim (any-split (λ s. lies side s x) (quarters side p) (flat_map (quarters side) ps) h) [
  | inl t ↦ (let q = any-all (λ s. lies side s x) (Covers side p) (quarters side p) (covers-quarters side p) t in
      or_left (lies (side + side) p x) _ (in-lies (side + side) p x (q.2 x.0 x.1 (lies-in side q.0 x q.1))))
  | inr t ↦ or_right (lies (side + side) p x) _ (any-whole side x ps t)
]

pub own-up : (S : List Corner) (side : ℕ) (ps : List Corner) (bits : List Bool) → Owned S side (chosen (flat_map (quarters side) ps) bits) → Owned S (side + side) ps
own-up S side ps bits h =
    all-weaker (λ x. list_any (λ p. lies side p x) (chosen (flat_map (quarters side) ps) bits) ≡ true) (λ x. list_any (λ p. lies (side + side) p x) ps ≡ true)
    (λ x e. any-whole side x ps (any-chosen (λ p. lies side p x) (flat_map (quarters side) ps) bits e)) S h

-- each of a list is found in it
pub all-self : (g : Corner → Corner → Bool) → ((x : Corner) → g x x ≡ true) → (xs : List Corner) → AllByRecursion (λ x. list_any (g x) xs ≡ true) xs
all-self g h [] = tt
all-self g h (x ∷ xs) = (
  or_left (g x x) (list_any (g x) xs) (h x),
  all-weaker (λ y. list_any (g y) xs ≡ true) (λ y. list_any (g y) (x ∷ xs) ≡ true) (λ y e. or_right (g y x) (list_any (g y) xs) e) xs (all-self g h xs),
)

pub lies-self : (x : Corner) → lies 1 x x ≡ true
lies-self x = in-lies 1 x x (record { south = omega arith; north = omega arith; east = omega arith; west = omega arith })

pub chosen-front : (qs : List Corner) (bits rest : List Bool) → length bits ≡ length qs → chosen qs (bits ++ rest) ≡ chosen qs bits
chosen-front [] bits rest l = refl
chosen-front (q ∷ qs) [] rest l = absurd (omega (arith, l))
chosen-front (q ∷ qs) (b ∷ bits) rest l = ap (λ zs. cond b (q ∷ zs) zs) (chosen-front qs bits rest (omega (arith, l)))
