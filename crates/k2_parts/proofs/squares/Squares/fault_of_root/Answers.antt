-- The tests of a root, one by one.
use Rattle.std.proofs.Common.{◌≡◌, true, false, ℕ, sym, ap, ◌∙◌, inl, inr}
use Rattle.run_model.specs.SharedFiles.{is_root}
use Rattle.run_model.specs.Files.{file_height}
use Rattle.k2_parts.specs.Told.{quadrants_told}
use Rattle.k2_parts.proofs.Naming.{root-rows, root-cols, root-none, root-outside, root-good}
use Rattle.k2_parts.proofs.squares.Squares.fault_of_root.Goals as goal

pub returns-then-rows-gt-SIZE_LIMIT : goal.returns-then-rows-gt-SIZE_LIMIT
returns-then-rows-gt-SIZE_LIMIT c = elim c.then-rows-gt-SIZE_LIMIT.either [
  | inl h ↦ sym (root-rows _ _ c.args.at c.args.rows c.args.cols c.args.root h)
  | inr h ↦ sym (root-cols _ _ c.args.at c.args.rows c.args.cols c.args.root h.1)
]

pub returns-then-not-is_root : goal.returns-then-not-is_root
returns-then-not-is_root c =
    let s = c.args.self.now in
    let none : is_root (quadrants_told s.quads.now) s.heights.now (file_height c.args.rows c.args.cols) c.args.root ≡ false =
    ap (λ (h : ℕ). is_root (quadrants_told s.quads.now) s.heights.now h c.args.root) (sym c.height_of_file.ensures.value) ∙ sym c.if-not-is_root.ensures in
    sym (root-none _ _ c.args.at c.args.rows c.args.cols c.args.root c.if-rows-gt-SIZE_LIMIT.false c.if-cols-gt-SIZE_LIMIT.false none)

pub returns-then-not-fits : goal.returns-then-not-fits
returns-then-not-fits c =
    let s = c.args.self.now in
    let one : is_root (quadrants_told s.quads.now) s.heights.now (file_height c.args.rows c.args.cols) c.args.root ≡ true =
    ap (λ (h : ℕ). is_root (quadrants_told s.quads.now) s.heights.now h c.args.root) (sym c.height_of_file.ensures.value) ∙ sym c.if-not-is_root.ensures in
    sym (root-outside _ _ c.args.at c.args.rows c.args.cols c.args.root c.if-rows-gt-SIZE_LIMIT.false c.if-cols-gt-SIZE_LIMIT.false one (sym c.if-not-fits.ensures))

pub returns : goal.returns
returns c =
    let s = c.args.self.now in
    let one : is_root (quadrants_told s.quads.now) s.heights.now (file_height c.args.rows c.args.cols) c.args.root ≡ true =
    ap (λ (h : ℕ). is_root (quadrants_told s.quads.now) s.heights.now h c.args.root) (sym c.height_of_file.ensures.value) ∙ sym c.if-not-is_root.ensures in
    sym (root-good _ _ c.args.at c.args.rows c.args.cols c.args.root c.if-rows-gt-SIZE_LIMIT.false c.if-cols-gt-SIZE_LIMIT.false one (sym c.if-not-fits.ensures))
