-- The relation of a rule from the quad of its cells, and its room.
use Rattle.std.proofs.Common.{◌≡◌, ◌<◌, ◌≤◌, ◌+◌, ◌-◌, ◌*◌, ◌^◌, ◌∙◌, ◌&&◌, ltb, max, ℕ, true, sym, ap, subst, arith, Some}
use Rattle.std.proofs.Math.Pow.{pow_mono}
use Rattle.std.proofs.lemmas.Bool.{lt-ltb, and_parts, ltb-true}
use Rattle.rel_model.specs.declared.Rel.{Rel}
use Rattle.rel_model.specs.declared.Quad.{Quad}
use Rattle.rel_model.specs.Relation.{relation_of, size_height, size_limit}
use Rattle.rel_model.specs.Trees.{top_height}
use Rattle.rel_model.specs.Roots.{height_over}
use Rattle.rel_model.specs.Cells.{Cells}
use Rattle.rel_model.specs.Quarters.{LiesWithin}
use Rattle.rel_model.specs.Worker.{Worker, Gives, GivesQuad, quad_set, height_of, operator_room}
use Rattle.rel_model.proofs.Relations.{relation_of-agree}
use Rattle.rel_domains.specs.declared.rule.Rule.{Rule}
use Rattle.rel_domains.specs.Rules.{passes, rule_cells, window}
use Rattle.rel_model.proofs.Heights.{height_over-rows, height_over-cols}
use Rattle.rel_domains.proofs.Listing.{power_mono}
use Rattle.rel_steps.proofs.Given.{gives_quad_set}

-- the side of a square is within the limit
pub side_limit : (h : ℕ) → h ≤ top_height → 0 + 2 ^ h ≤ size_limit
unfolding top_height
side_limit h l = let p : 2 ^ h ≤ size_limit = pow_mono {i = h} {j = size_height} l in omega (arith, p)

module _ (least d m n : ℕ) (rule : Rule) (rows : m ≤ size_limit) (cols : n ≤ size_limit) (high : least + d ≡ height_over least m n) where
  abbrev pub whole : Cells
  whole = window (2 ^ (least + d)) 0 0 (rule_cells m n rule)

  ruled_here : (i j : ℕ) → i < m → j < n → whole i j ≡ passes rule i j
  ruled_here i j a b =
      let r : m ≤ 2 ^ (least + d) = subst (λ h. m ≤ 2 ^ h) (sym high) (height_over-rows least m n rows) in
      let s : n ≤ 2 ^ (least + d) = subst (λ h. n ≤ 2 ^ h) (sym high) (height_over-cols least m n cols) in
      rw (lt-ltb i (2 ^ (least + d)) (omega (arith, a, r)), lt-ltb j (2 ^ (least + d)) (omega (arith, b, s)))
      (ap (λ k. rule_cells m n rule k (0 + j)) (let e : 0 + i ≡ i = omega arith in e) ∙ ap (rule_cells m n rule i) (let e : 0 + j ≡ j = omega arith in e)
      ∙ ap (λ t. t && (ltb j n && passes rule i j)) (lt-ltb i m a) ∙ ap (λ t. t && passes rule i j) (lt-ltb j n b))

  -- the cells of a rule lie within the sizes, which are tested with the rule
  pub ruled_within : LiesWithin m n whole
  ruled_within = record {
    row = λ i j t. (let p = inside i j t in omega (arith, p.0));
    col = λ i j t. (let p = inside i j t in omega (arith, p.1));
  }
    where
      inside : (i j : ℕ) → whole i j ≡ true → (0 + i < m) × (0 + j < n)
      inside i j t =
          let a = and_parts (ltb i (2 ^ (least + d))) (ltb j (2 ^ (least + d)) && rule_cells m n rule (0 + i) (0 + j)) t in
          let b = and_parts (ltb j (2 ^ (least + d))) (rule_cells m n rule (0 + i) (0 + j)) a.1 in
          let c = and_parts (ltb (0 + i) m) (ltb (0 + j) n && passes rule (0 + i) (0 + j)) b.1 in
          let e = and_parts (ltb (0 + j) n) (passes rule (0 + i) (0 + j)) c.1 in
          (ltb-true (0 + i) m c.0, ltb-true (0 + j) n e.0)

  pub ruled_quad : (w : Worker) (q : Quad) → GivesQuad w (least + d) whole q → LiesWithin m n (quad_set w q)
  ruled_quad w q g = subst (LiesWithin m n) (sym (gives_quad_set w (least + d) whole q g)) ruled_within

  pub ruled_relation : (w : Worker) (q : Quad) (rel : Rel) → GivesQuad w (least + d) whole q → Gives w m n (relation_of m n (quad_set w q)) rel → Gives w m n (relation_of m n (passes rule)) rel
  ruled_relation w q rel g r = record {
    means = r.means ∙ ap Some (ap (relation_of m n) (gives_quad_set w (least + d) whole q g) ∙ relation_of-agree m n whole (passes rule) ruled_here);
    row_size = r.row_size;
    col_size = r.col_size;
  }

-- what the squares of a rule place has the room of an operator
pub rule_room : (least d m n : ℕ) → least + d ≡ height_over least m n → 2 * 4 ^ d - 1 ≤ operator_room m n
unfolding height_over operator_room
rule_room least d m n e =
    let h = max (height_of m) (height_of n) in
    let p = power_mono d h (omega arith) in
    omega (arith, p)
