-- Squares of 256 rows and columns that are cut from rows of bits, and the tree over them.
use Rattle.std.proofs.Common.{◌≡◌, ◌<◌, ◌+◌, ◌-◌, ◌*◌, ◌∙◌, ◌&&◌, ltb, ℕ, Bool, List, refl, sym, ap, subst, inl, inr, arith, length, get_or, set, take, drop}
use Rattle.std.proofs.lemmas.Bool.{cases_lt, le-ltb, and_left, and_right}
use Rattle.std.proofs.lemmas.List.{length-set, get_or-set_same, get_or-set_other, get_or-take, get_or-drop}
use Rattle.std.proofs.lemmas.Nat.{mul-le}
use Rattle.rel_model.specs.declared.Quad.{Quad}
use Rattle.rel_model.specs.Cells.{Cells}
use Rattle.rel_model.specs.Worker.{Worker, GivesQuad, Keeps, MakesAtMost, MissesNothing}
use Rattle.rel_model.specs.Roots.{tree_room}
use Rattle.rel_model.proofs.TreeLaws.{same_cells}
use Rattle.rel_model.proofs.Workers.{keeps_itself, keeps_trans}
use Rattle.rel_steps.proofs.Given.{gives_later}
use Rattle.bit_rows.specs.declared.row.Row.{Row}
use Rattle.bit_rows.specs.Rows.{row_has, no_row, rows_cells}
use Rattle.bit_rows.specs.Places.{window}
use Rattle.rel_joins.specs.Columns.{AreCut, AreTiles, no_square}

-- ---- windows
-- windows of sets that agree in them are equal
pub same_window : (m r c p q : ℕ) (f g : Cells) → ((i j : ℕ) → i < m → j < m → f (r + i) (c + j) ≡ g (p + i) (q + j)) → window r c m f ≡ window p q m g
same_window m r c p q f g h = same_cells _ _ (λ i j. elim (cases_lt i m) [
  | inl a ↦ elim (cases_lt j m) [
    | inl b ↦ ap (λ (t : Bool). ltb i m && (ltb j m && t)) (h i j a b)
    | inr b ↦ and_right (ltb i m) _ (and_left (ltb j m) _ (le-ltb j m b)) ∙ sym (and_right (ltb i m) _ (and_left (ltb j m) _ (le-ltb j m b)))
  ]
  | inr a ↦ and_left (ltb i m) _ (le-ltb i m a) ∙ sym (and_left (ltb i m) _ (le-ltb i m a))
])

-- 256 rows alone
pub part_window : (from : ℕ) (rows : List Row) → window 0 0 256 (rows_cells (take (from + 256 - from) (drop from rows))) ≡ window from 0 256 (rows_cells rows)
part_window from rows = same_window 256 0 0 from 0 (rows_cells (take (from + 256 - from) (drop from rows))) (rows_cells rows) (λ i j a b.
    let e : 0 + i ≡ i = omega arith in
    ap (λ (x : ℕ). row_has (get_or (take (from + 256 - from) (drop from rows)) x no_row) (0 + j)) e
    ∙ ap (λ (x : Row). row_has x (0 + j)) (get_or-take (from + 256 - from) (drop from rows) i no_row (omega arith) ∙ get_or-drop from rows i no_row))

-- ---- the squares of 256 columns
pub record Cutting (u w : Worker) (rows : List Row) (from count : ℕ) (old new : List Quad) : Type 0 where
  pub len : length new ≡ length old
  pub kept : (k : ℕ) → k < from → get_or new k no_square ≡ get_or old k no_square
  pub cut : AreCut w rows from count new
  pub keeps : Keeps u w
  pub room : MakesAtMost (count * tree_room 5) u w
  pub misses : MissesNothing u w

pub cutting_none : {u : Worker} {rows : List Row} {from : ℕ} {squares : List Quad} → Cutting u u rows from 0 squares squares
cutting_none {u} = record { len = refl; kept = λ k l. refl; cut = record { given = λ b l. absurd (omega (arith, l)) }; keeps = keeps_itself u; room = omega arith; misses = refl }

pub cutting_more : {u v w : Worker} {rows : List Row} {from b : ℕ} {old squares new : List Quad} (q : Quad) → Cutting u v rows from b old squares → from + b < length squares → new ≡ set squares (from + b) q
    → GivesQuad w 8 (window (256 * b) 0 256 (rows_cells rows)) q → Keeps v w → MakesAtMost (tree_room 5) v w → MissesNothing v w → Cutting u w rows from (b + 1) old new
cutting_more {u} {v} {w} {rows} {from} {b} {old} {squares} {new} q a l f g k r m = record {
  len = ap length f ∙ length-set squares (from + b) q ∙ a.len;
  kept = λ i c. ap (λ (zs : List Quad). get_or zs i no_square) f ∙ get_or-set_other squares (from + b) i q no_square (λ e. omega (arith, e, c)) ∙ a.kept i c;
  cut = record {
    given = λ i c. elim (cases_lt i b) [
      | inl d ↦ subst (λ (z : Quad). GivesQuad w 8 (window (256 * i) 0 256 (rows_cells rows)) z)
          (sym (ap (λ (zs : List Quad). get_or zs (from + i) no_square) f ∙ get_or-set_other squares (from + b) (from + i) q no_square (λ e. omega (arith, e, d))))
          (gives_later v w 8 _ _ k (a.cut.given i d))
      | inr d ↦ (let e : b ≡ i = omega (arith, c, d) in
          subst (λ (z : ℕ). GivesQuad w 8 (window (256 * z) 0 256 (rows_cells rows)) (get_or new (from + z) no_square)) e
          (subst (λ (z : Quad). GivesQuad w 8 (window (256 * b) 0 256 (rows_cells rows)) z) (sym (ap (λ (zs : List Quad). get_or zs (from + b) no_square) f ∙ get_or-set_same squares (from + b) q no_square l)) g))
    ];
  };
  keeps = keeps_trans u v w a.keeps k;
  room = (let x = a.room in omega (arith, x, r));
  misses = m ∙ a.misses;
}

-- ---- all squares
pub record Tiling (u w : Worker) (f : Cells) (blocks count : ℕ) (old new : List Quad) : Type 0 where
  pub len : length new ≡ length old
  pub tiles : AreTiles w f blocks (count * blocks) new
  pub keeps : Keeps u w
  pub room : MakesAtMost (count * (blocks * tree_room 5)) u w
  pub misses : MissesNothing u w

pub tiling_none : {u : Worker} {f : Cells} {blocks : ℕ} {squares : List Quad} → Tiling u u f blocks 0 squares squares
tiling_none {u} = record { len = refl; tiles = λ s b l c. absurd (omega (arith, c)); keeps = keeps_itself u; room = omega arith; misses = refl }

-- a place tells its column
earlier : (s t b blocks : ℕ) → b < blocks → t * blocks + b < (s + 1) * blocks → t < s + 1
earlier s t b blocks l c = elim (cases_lt t (s + 1)) [
  | inl a ↦ a
  | inr a ↦ (let m = mul-le (s + 1) blocks t blocks a (omega arith) in absurd (omega (arith, m, c)))
]

pub tiling_more : {u v w : Worker} {f : Cells} {rows : List Row} {blocks s : ℕ} {old squares new : List Quad} → Tiling u v f blocks s old squares
    → ((x j : ℕ) → j < 256 → rows_cells rows x j ≡ f x (256 * s + j)) → length new ≡ length squares → ((k : ℕ) → k < s * blocks → get_or new k no_square ≡ get_or squares k no_square)
    → AreCut w rows (s * blocks) blocks new → Keeps v w → MakesAtMost (blocks * tree_room 5) v w → MissesNothing v w → Tiling u w f blocks (s + 1) old new
tiling_more {u} {v} {w} {f} {rows} {blocks} {s} {old} {squares} {new} a h ln kept cut k r m = record {
  len = ln ∙ a.len;
  tiles = λ t b l c. elim (cases_lt t s) [
    | inl d ↦ (let x = mul-le (t + 1) blocks s blocks (omega (arith, d)) (omega arith) in
        let y : t * blocks + b < s * blocks = omega (arith, x, l) in
        subst (λ (z : Quad). GivesQuad w 8 (window (256 * b) (256 * t) 256 f) z) (sym (kept (t * blocks + b) y)) (gives_later v w 8 _ _ k (a.tiles t b l y)))
    | inr d ↦ (let x = earlier s t b blocks l c in
        let e : s ≡ t = omega (arith, x, d) in
        subst (λ (z : ℕ). GivesQuad w 8 (window (256 * b) (256 * z) 256 f) (get_or new (z * blocks + b) no_square)) e
        (subst (λ (z : Cells). GivesQuad w 8 z (get_or new (s * blocks + b) no_square))
        (same_window 256 (256 * b) 0 (256 * b) (256 * s) (rows_cells rows) f (λ i j p q. ap (λ (z : ℕ). rows_cells rows (256 * b + i) z) (omega arith) ∙ h (256 * b + i) j q))
        (cut.given b l)))
  ];
  keeps = keeps_trans u v w a.keeps k;
  room = (let x = a.room in omega (arith, x, r));
  misses = m ∙ a.misses;
}
