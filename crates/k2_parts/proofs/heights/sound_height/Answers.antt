-- The tests of a quadrant by its numbers, one by one.
use Rattle.std.proofs.Common.{◌≡◌, ◌+◌, ◌<◌, ◌≤◌, ◌∙◌, ℕ, sym, ap, arith}
use Rattle.std.proofs.lemmas.Bool.{lt-ltb, le-ltb}
use Rattle.run_model.specs.SharedFiles.{height_at, height_of_quadrant}
use Rattle.k2_parts.specs.Told.{quadrant_told}
use Rattle.k2_parts.proofs.Sounding.{first_height, unsound-empty, unsound-over, unsound-other, unsound-high, sound}
use Rattle.k2_parts.proofs.heights.sound_height.Goals as goal

pub returns-then-is_empty : goal.returns-then-is_empty
returns-then-is_empty c = sym (unsound-empty c.args.heights.now (quadrant_told c.args.quad.now) (sym c.is_empty.ensures ∙ c.if-is_empty.true))

pub returns-then-is_over : goal.returns-then-is_over
returns-then-is_over c =
    sym (unsound-over c.args.heights.now (quadrant_told c.args.quad.now) (sym c.is_empty.ensures ∙ c.if-is_empty.false) (sym c.is_over.ensures ∙ c.if-is_over.true))

pub returns-then-has_other_height : goal.returns-then-has_other_height
returns-then-has_other_height c =
    let hs = c.args.heights.now in
    let q = quadrant_told c.args.quad.now in
    let h : c.from-height.result + 1 ≡ height_of_quadrant hs q =
    ap (λ (n : ℕ). n + 1) (c.from-height.ensures ∙ (c.height_at.ensures ∙ ap (height_at hs) c.first_part.ensures)) ∙ first_height hs q in
    sym (unsound-other hs q (sym c.is_empty.ensures ∙ c.if-is_empty.false) (sym c.is_over.ensures ∙ c.if-is_over.false) (c.from-height.result + 1) h
    (sym c.has_other_height.ensures ∙ c.if-has_other_height.true))

pub returns-then-from-height : goal.returns-then-from-height
returns-then-from-height c =
    let hs = c.args.heights.now in
    let q = quadrant_told c.args.quad.now in
    let h : c.from-height.result + 1 ≡ height_of_quadrant hs q =
    ap (λ (n : ℕ). n + 1) (c.from-height.ensures ∙ (c.height_at.ensures ∙ ap (height_at hs) c.first_part.ensures)) ∙ first_height hs q in
    let high : 24 < height_of_quadrant hs q = omega (arith, h, c.from.ensures, c.if-from-height.true) in
    sym (unsound-high hs q (sym c.is_empty.ensures ∙ c.if-is_empty.false) (sym c.is_over.ensures ∙ c.if-is_over.false) (c.from-height.result + 1) h
    (sym c.has_other_height.ensures ∙ c.if-has_other_height.false) (lt-ltb 24 (height_of_quadrant hs q) high))

pub returns : goal.returns
returns c =
    let hs = c.args.heights.now in
    let q = quadrant_told c.args.quad.now in
    let h : c.from-height.result + 1 ≡ height_of_quadrant hs q =
    ap (λ (n : ℕ). n + 1) (c.from-height.ensures ∙ (c.height_at.ensures ∙ ap (height_at hs) c.first_part.ensures)) ∙ first_height hs q in
    let low : height_of_quadrant hs q ≤ 24 = omega (arith, h, c.from.ensures, c.if-from-height.false) in
    sym (sound hs q (sym c.is_empty.ensures ∙ c.if-is_empty.false) (sym c.is_over.ensures ∙ c.if-is_over.false) (c.from-height.result + 1) h
    (sym c.has_other_height.ensures ∙ c.if-has_other_height.false) (le-ltb 24 (height_of_quadrant hs q) low))
