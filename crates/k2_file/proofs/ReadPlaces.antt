-- Places in the levels of a tree: the group at the first of them, and how they move on past it.
use Rattle.std.proofs.Common.{◌≡◌, ◌==◌, ◌+◌, ◌-◌, ◌*◌, ◌^◌, ◌≤◌, ℕ, suc, Bool, false, cond, List, [], ◌∷◌, ◌++◌, length, drop, get_or, set, refl, sym, ap, ◌∙◌, subst, arith}
use Rattle.std.proofs.lemmas.List.{length-append, length-drop}
use Rattle.std.proofs.lemmas.Bool.Decides.{nat_tests}
use Rattle.run_model.specs.Files.{number_of_bit}
use Rattle.k2_file.specs.Rests.{behind, AreThere, rests_at, MovesOn}
use Rattle.k2_file.proofs.ReadApart.{two-halves}
use Rattle.k2_file.proofs.ReadRests.{groups-long}
use Rattle.k2_file.proofs.ReadQuarters.{group-behind, group-there}

-- the bits of a level, which is the last or not
abbrev pub level_of : Bool → List Bool → List Bool → List Bool
level_of is_last tree cells = cond is_last cells tree

pub last-level : (height n : ℕ) → n + 1 ≡ height → (n == 0) ≡ (height == 1)
last-level height n e = grind (arith, nat_tests)

rests-first : (tree cells : List Bool) (x : ℕ) (below : List ℕ) (is_last : Bool) → (length below == 0) ≡ is_last
    → rests_at tree cells (x ∷ below) ≡ drop (4 * x) (level_of is_last tree cells) ∷ rests_at tree cells below
rests-first tree cells x below is_last e = ap (λ b. drop (4 * x) (cond b cells tree) ∷ rests_at tree cells below) e

one-place : (here : List ℕ) → length here ≡ 1 → here ≡ get_or here 0 0 ∷ []
one-place [] e = absurd (omega (arith, e))
one-place (x ∷ []) e = refl
one-place (x ∷ y ∷ here) e = absurd (omega (arith, e))

pub rests-front : (tree cells : List Bool) (places here below : List ℕ) (height : ℕ) → length places ≡ height → places ≡ here ++ below → length here ≡ 1
    → rests_at tree cells places ≡ drop (4 * get_or here 0 0) (level_of (height == 1) tree cells) ∷ rests_at tree cells below
rests-front tree cells places here below height h e l =
    let many : length below + 1 ≡ height = omega (arith, h, ap length e, length-append here below, l) in
    ap (rests_at tree cells) (e ∙ ap (λ hs. hs ++ below) (one-place here l))
    ∙ rests-first tree cells (get_or here 0 0) below (height == 1) (last-level height (length below) many)

-- the group at the first place is there
pub group-room : (tree cells : List Bool) (places here below : List ℕ) (height : ℕ) → length places ≡ height → places ≡ here ++ below → length here ≡ 1
    → AreThere 1 (rests_at tree cells places) → 4 * get_or here 0 0 + 4 ≤ length (level_of (height == 1) tree cells)
group-room tree cells places here below height h e l t =
    let level = level_of (height == 1) tree cells in
    let x = get_or here 0 0 in
    let g = subst (AreThere 1) (rests-front tree cells places here below height h e l) t in
    let r = groups-long 1 (drop (4 * x) level) g.0 in
    omega (arith, r, length-drop (4 * x) level)

-- a square at places, its group, and the rests of the levels below it
pub record IsAtGroup (tree cells : List Bool) (places below : List ℕ) (height : ℕ) (a b c d : Bool) (xs : List Bool) : Type 0 where
  pub rests : rests_at tree cells places ≡ (a ∷ b ∷ c ∷ d ∷ xs) ∷ rests_at tree cells below
  pub many : length below + 1 ≡ height

pub at-group : (tree cells : List Bool) (places here below : List ℕ) (height : ℕ) (a b c d : Bool) → length places ≡ height → places ≡ here ++ below → length here ≡ 1
    → drop (4 * get_or here 0 0) (level_of (height == 1) tree cells) ≡ a ∷ b ∷ c ∷ d ∷ drop (4 * (get_or here 0 0 + 1)) (level_of (height == 1) tree cells)
    → IsAtGroup tree cells places below height a b c d (drop (4 * (get_or here 0 0 + 1)) (level_of (height == 1) tree cells))
at-group tree cells places here below height a b c d h e l g = record {
  rests = rests-front tree cells places here below height h e l ∙ ap (λ ys. ys ∷ rests_at tree cells below) g;
  many = omega (arith, h, ap length e, length-append here below, l);
}

place-set : (here : List ℕ) (x : ℕ) → length here ≡ 1 → set here 0 x ≡ x ∷ []
place-set [] x e = absurd (omega (arith, e))
place-set (y ∷ []) x e = refl
place-set (y ∷ z ∷ here) x e = absurd (omega (arith, e))

-- all four quarters were read: the places moved on past the square, whose group is at the place before
pub group-moves : {tree cells : List Bool} {places b0 b1 b2 b3 b4 : List ℕ} {height : ℕ} {a b c d : Bool}
    (here : List ℕ)
    → length places ≡ height → length here ≡ 1
    → IsAtGroup tree cells places b0 height a b c d (drop (4 * (get_or here 0 0 + 1)) (level_of (height == 1) tree cells))
    → MovesOn tree cells (number_of_bit a) b0 b1 → MovesOn tree cells (number_of_bit b) b1 b2
    → MovesOn tree cells (number_of_bit c) b2 b3 → MovesOn tree cells (number_of_bit d) b3 b4
    → MovesOn tree cells 1 places (set here 0 (get_or here 0 0 + 1) ++ b4)
group-moves {tree} {cells} {places} {b0} {b1} {b2} {b3} {b4} {height} {a} {b} {c} {d} here h l g m1 m2 m3 m4 =
    let x = get_or here 0 0 in
    let level = level_of (height == 1) tree cells in
    let many : length b4 + 1 ≡ height = omega (arith, g.many, m1.many, m2.many, m3.many, m4.many) in
    let same : set here 0 (x + 1) ++ b4 ≡ (x + 1) ∷ b4 = ap (λ ys. ys ++ b4) (place-set here (x + 1) l) in
    record {
      many = ap length same ∙ omega (arith, many, h);
      rests = ap (rests_at tree cells) same
          ∙ rests-first tree cells (x + 1) b4 (height == 1) (last-level height (length b4) many)
          ∙ sym (ap (behind 1) g.rests
          ∙ group-behind a b c d (drop (4 * (x + 1)) level) (rests_at tree cells b0) (rests_at tree cells b1) (rests_at tree cells b2) (rests_at tree cells b3)
          m1.rests m2.rests m3.rests (rests_at tree cells b4) m4.rests);
    }

-- ---- nothing read
behind-none : (rests : List (List Bool)) → behind 0 rests ≡ rests
behind-none [] = refl
behind-none (bits ∷ rests) = ap (λ rs. bits ∷ rs) (behind-none rests)

pub moves-none : (tree cells : List Bool) (b : Bool) (places : List ℕ) → b ≡ false → MovesOn tree cells (number_of_bit b) places places
moves-none tree cells b places e = record { many = refl; rests = sym (ap (λ t. behind (number_of_bit t) (rests_at tree cells places)) e ∙ behind-none (rests_at tree cells places)) }

pub no-places : (tree cells : List Bool) (places : List ℕ) (height : ℕ) → length places ≡ height → height ≡ 0 → rests_at tree cells places ≡ []
no-places tree cells [] height h e = refl
no-places tree cells (x ∷ places) height h e = absurd (omega (arith, h, e))

-- ---- the quarters of a square that is there
module _ {tree cells : List Bool} {places b0 : List ℕ} {height : ℕ} {a b c d : Bool} {xs : List Bool}
    (g : IsAtGroup tree cells places b0 height a b c d xs) (t : AreThere 1 (rests_at tree cells places)) where
  abbrev r0 : List (List Bool)
  r0 = rests_at tree cells b0

  own : AreThere 1 ((a ∷ b ∷ c ∷ d ∷ xs) ∷ r0)
  own = subst (AreThere 1) g.rests t

  pub nw-there : AreThere (number_of_bit a) r0
  nw-there = (group-there a b c d xs r0 _ _ _ refl refl refl own).0

  pub ne-there : {b1 : List ℕ} → MovesOn tree cells (number_of_bit a) b0 b1
      → AreThere (number_of_bit b) (rests_at tree cells b1)
  ne-there m = (group-there a b c d xs r0 _ _ _ m.rests refl refl own).1

  pub sw-there : {b1 b2 : List ℕ} → MovesOn tree cells (number_of_bit a) b0 b1
      → MovesOn tree cells (number_of_bit b) b1 b2
      → AreThere (number_of_bit c) (rests_at tree cells b2)
  sw-there m n = (group-there a b c d xs r0 _ _ _ m.rests n.rests refl own).2

  pub se-there : {b1 b2 b3 : List ℕ} → MovesOn tree cells (number_of_bit a) b0 b1
      → MovesOn tree cells (number_of_bit b) b1 b2
      → MovesOn tree cells (number_of_bit c) b2 b3 → AreThere (number_of_bit d) (rests_at tree cells b3)
  se-there m n o = (group-there a b c d xs r0 _ _ _ m.rests n.rests o.rests own).3

pub halves : (h : ℕ) → (h ≡ 0 → ⊥) → 2 ^ h ≡ 2 ^ (h - 1) + 2 ^ (h - 1)
halves h n = let e : suc (h - 1) ≡ h = omega (arith, n) in ap (λ (k : ℕ). 2 ^ k) (sym e) ∙ two-halves (h - 1)
