-- Squares: at each second depth a set lies in a square, a square is made of four, and operators go by pairings and by quarters.
use Rattle.std.proofs.Common.{◌≡◌, ◌+◌, ltb, zero, suc, ℕ, Bool, true, not, refl, ap, inl, inr}
use Rattle.std.proofs.lemmas.Bool.{cases_Bool}
use Rattle.rel_model.specs.Cells.{Cells}
use Rattle.rel_model.specs.Trees.{is_square, rows_at, cols_at, paired, twice, side, quartered}
use Rattle.rel_model.proofs.TreeLaws.{same_cells}

pub is_square-twice : (d : ℕ) → is_square (twice d) ≡ true
is_square-twice zero = refl
is_square-twice (suc d) = ap (λ b. not (not b)) (is_square-twice d)

pub rows_at-twice : (d : ℕ) → rows_at (twice d) ≡ side d
rows_at-twice zero = refl
rows_at-twice (suc d) = rw (is_square-twice d) (ap (λ (x : ℕ). x + x) (rows_at-twice d))

pub cols_at-twice : (d : ℕ) → cols_at (twice d) ≡ side d
cols_at-twice zero = refl
cols_at-twice (suc d) = rw (is_square-twice d) (ap (λ (x : ℕ). x + x) (cols_at-twice d))

-- two pairings of two are a square of four quarters
pub four_squares : (d : ℕ) (nw ne sw se : Cells) → paired (suc (twice d)) (paired (twice d) nw ne) (paired (twice d) sw se) ≡ quartered (side d) nw ne sw se
four_squares d nw ne sw se = same_cells _ _ (λ i j. rw (is_square-twice d, rows_at-twice d, cols_at-twice d) (elim (cases_Bool (ltb i (side d))) [ inl e ↦ rw e refl | inr e ↦ rw e refl ]))

-- an operator that works cell by cell
abbrev pub each_cell : (Bool → Bool → Bool) → Cells → Cells → Cells
each_cell op f g i j = op (f i j) (g i j)

-- a cell-wise operator goes through a pairing
pub each_cell-paired : (op : Bool → Bool → Bool) (k : ℕ) (f g x y : Cells) → each_cell op (paired k f g) (paired k x y) ≡ paired k (each_cell op f x) (each_cell op g y)
each_cell-paired op k f g x y = same_cells _ _ (λ i j. elim (cases_Bool (is_square k)) [
  | inl e ↦ rw e (elim (cases_Bool (ltb j (cols_at k))) [ inl d ↦ rw d refl | inr d ↦ rw d refl ])
  | inr e ↦ rw e (elim (cases_Bool (ltb i (rows_at k))) [ inl d ↦ rw d refl | inr d ↦ rw d refl ])
])

-- a cell-wise operator goes by quarters
pub each_cell-quartered : (op : Bool → Bool → Bool) (m : ℕ) (a b c d e f g h : Cells) → each_cell op (quartered m a b c d) (quartered m e f g h) ≡ quartered m (each_cell op a e) (each_cell op b f) (each_cell op c g) (each_cell op d h)
each_cell-quartered op m a b c d e f g h = same_cells _ _ (λ i j. elim (cases_Bool (ltb i m)) [
  | inl x ↦ rw x (elim (cases_Bool (ltb j m)) [ inl y ↦ rw y refl | inr y ↦ rw y refl ])
  | inr x ↦ rw x (elim (cases_Bool (ltb j m)) [ inl y ↦ rw y refl | inr y ↦ rw y refl ])
])
