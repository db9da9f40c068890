-- Quads of the table as quads of a worker.
use Rattle.std.proofs.Common.{◌≡◌, ◌≤◌, ◌+◌, ◌-◌, ◌^◌, ℕ, Result, IfOk, refl, sym, ap, subst, ◌∙◌, arith}
use Rattle.rel_model.specs.declared.Rel.{Rel}
use Rattle.rel_model.specs.declared.Quad.{Quad}
use Rattle.rel_model.specs.declared.Quarters.{Quarters}
use Rattle.rel_model.specs.declared.Lack.{Lack}
use Rattle.rel_model.specs.Relation.{has, relation_of, size_limit}
use Rattle.std.specs.Prelude.{IsSome, unwrap_or, true}
use Rattle.rel_model.specs.Cells.{Cells, no_cells}
use Rattle.rel_model.specs.Trees.{bottom_height, quartered}
use Rattle.rel_model.specs.Equations.{side_of}
use Rattle.rel_model.specs.Quads.{Keeper, IsKeeper, QuadStands, IsQuad, quad_cells, KeepsQuads, ReadsQuads, AreQuarters, quad_room}
use Rattle.rel_model.specs.Roots.{height_over, tree_room}
use Rattle.rel_model.specs.Quarters.{LiesWithin, GivesQuarters}
use Rattle.rel_model.specs.Worker.{Stands, set_of, HasQuad, quad_set, Gives, GivesQuad, MakesAtMost, MissesNothing, FindsQuad}
use Rattle.quad_nodes.specs.Finding.{FindsQuad as FindsSquare}
use Rattle.rel_model.proofs.QuadLaws.{side_of-power}
use Rattle.fork_quads.specs.Crew.{worker_of, root_quad, told_as}
use Rattle.fork_quads.proofs.Crewing.{has_quad-stands, stands-has_quad, quad_set-cells, is_quad-gives, has-root, root_stands, is_quad-relation, told_value}

-- ---- quads of the keeper inside a worker
pub stands_inside : (w inside : Keeper) (q : Quad) → inside ≡ w → HasQuad (worker_of w) q → QuadStands inside q
stands_inside w inside q v h = subst (λ (x : Keeper). QuadStands x q) (sym v) (has_quad-stands w q h)

pub set_inside : (w inside : Keeper) (q : Quad) → inside ≡ w → IsKeeper inside → HasQuad (worker_of w) q → quad_cells inside q ≡ quad_set (worker_of w) q
set_inside w inside q v i h = ap (λ (x : Keeper). quad_cells x q) v ∙ sym (quad_set-cells w q (subst IsKeeper v i) (has_quad-stands w q h))

-- ---- answers
pub told_gives : {E : Type 0} (new : Keeper) (h : ℕ) (f value : Cells) (a : Result Quad E) (result : Result Quad Lack) → IsKeeper new → f ≡ value → IfOk a (IsQuad new h f) → result ≡ told_as a → IfOk result (GivesQuad (worker_of new) h value)
told_gives new h f value a result i v s e =
    subst (λ (x : Result Quad Lack). IfOk x (GivesQuad (worker_of new) h value)) (sym e) (subst (λ (c : Cells). IfOk (told_as a) (GivesQuad (worker_of new) h c)) v (told_value new h f a i s))

-- the set of four quarters, as the keeper and as the worker have them
corner_set : (w inside : Keeper) (nw ne sw se : Quad) → inside ≡ w → IsKeeper inside → HasQuad (worker_of w) nw → HasQuad (worker_of w) ne → HasQuad (worker_of w) sw → HasQuad (worker_of w) se
    → quartered (side_of nw.height) (quad_cells inside nw) (quad_cells inside ne) (quad_cells inside sw) (quad_cells inside se) ≡ quartered (2 ^ nw.height) (quad_set (worker_of w) nw) (quad_set (worker_of w) ne) (quad_set (worker_of w) sw) (quad_set (worker_of w) se)
corner_set w inside nw ne sw se v i h0 h1 h2 h3 =
    ap (λ (m : ℕ). quartered m (quad_cells inside nw) (quad_cells inside ne) (quad_cells inside sw) (quad_cells inside se)) (side_of-power nw.height (has_quad-stands w nw h0).low)
    ∙ ap (λ (c : Cells). quartered (2 ^ nw.height) c (quad_cells inside ne) (quad_cells inside sw) (quad_cells inside se)) (set_inside w inside nw v i h0)
    ∙ ap (λ (c : Cells). quartered (2 ^ nw.height) (quad_set (worker_of w) nw) c (quad_cells inside sw) (quad_cells inside se)) (set_inside w inside ne v i h1)
    ∙ ap (λ (c : Cells). quartered (2 ^ nw.height) (quad_set (worker_of w) nw) (quad_set (worker_of w) ne) c (quad_cells inside se)) (set_inside w inside sw v i h2)
    ∙ ap (λ (c : Cells). quartered (2 ^ nw.height) (quad_set (worker_of w) nw) (quad_set (worker_of w) ne) (quad_set (worker_of w) sw) c) (set_inside w inside se v i h3)

pub corner_gives : {E : Type 0} (w inside new : Keeper) (nw ne sw se : Quad) (a : Result Quad E) (result : Result Quad Lack) → inside ≡ w → IsKeeper inside → IsKeeper new → HasQuad (worker_of w) nw → HasQuad (worker_of w) ne → HasQuad (worker_of w) sw
    → HasQuad (worker_of w) se → IfOk a (IsQuad new (nw.height + 1) (quartered (side_of nw.height) (quad_cells inside nw) (quad_cells inside ne) (quad_cells inside sw) (quad_cells inside se))) → result ≡ told_as a
    → IfOk result (GivesQuad (worker_of new) (nw.height + 1) (quartered (2 ^ nw.height) (quad_set (worker_of w) nw) (quad_set (worker_of w) ne) (quad_set (worker_of w) sw) (quad_set (worker_of w) se)))
corner_gives w inside new nw ne sw se a result v i j h0 h1 h2 h3 s e = told_gives new (nw.height + 1) _ _ a result j (corner_set w inside nw ne sw se v i h0 h1 h2 h3) s e

-- ---- what stands already
-- a quad that the worker has, of this height and set, is one of the keeper
has_is_quad : (w : Keeper) (h : ℕ) (f : Cells) (q : Quad) → IsKeeper w → GivesQuad (worker_of w) h f q → IsQuad w h f q
has_is_quad w h f q i g =
    let s = has_quad-stands w q (subst IsSome (sym g.means) refl) in
    record { same_height = g.same_height; stands = s; means = sym (quad_set-cells w q i s) ∙ ap (λ o. unwrap_or o no_cells) g.means }

-- what the keeper found is found
pub told_found : {E : Type 0} (w inside new : Keeper) (h : ℕ) (f value : Cells) (a : Result Quad E) (result : Result Quad Lack) → inside ≡ w → IsKeeper inside → f ≡ value → FindsSquare inside new h f a → result ≡ told_as a
    → FindsQuad true (worker_of w) (worker_of new) h value result
told_found w inside new h f value a result v i s find e =
    subst (λ (x : Result Quad Lack). FindsQuad true (worker_of w) (worker_of new) h value x) (sym e)
    (λ lean q g.
    let found = find q (subst (λ (x : Keeper). IsQuad x h f q) (sym v) (subst (λ (c : Cells). IsQuad w h c q) (sym s) (has_is_quad w h value q (subst IsKeeper v i) g))) in (
      ap told_as found.answer,
      subst (λ (x : Keeper). MakesAtMost 0 (worker_of x) (worker_of new)) v found.reads.keeps.room,
      subst (λ (x : Keeper). MissesNothing (worker_of x) (worker_of new)) v found.reads.misses,
    ))

-- so is a corner
pub corner_found : {E : Type 0} (w inside new : Keeper) (nw ne sw se : Quad) (a : Result Quad E) (result : Result Quad Lack) → inside ≡ w → IsKeeper inside → HasQuad (worker_of w) nw → HasQuad (worker_of w) ne → HasQuad (worker_of w) sw
    → HasQuad (worker_of w) se → FindsSquare inside new (nw.height + 1) (quartered (side_of nw.height) (quad_cells inside nw) (quad_cells inside ne) (quad_cells inside sw) (quad_cells inside se)) a → result ≡ told_as a
    → FindsQuad true (worker_of w) (worker_of new) (nw.height + 1) (quartered (2 ^ nw.height) (quad_set (worker_of w) nw) (quad_set (worker_of w) ne) (quad_set (worker_of w) sw) (quad_set (worker_of w) se)) result
corner_found w inside new nw ne sw se a result v i h0 h1 h2 h3 find e = told_found w inside new (nw.height + 1) _ _ a result v i (corner_set w inside nw ne sw se v i h0 h1 h2 h3) find e

-- the quarters of a quad are quarters for a worker too: each stands there with its set, and the sides are the same
pub quarters_give : (w inside new : Keeper) (q : Quad) (four : Quarters) → inside ≡ w → HasQuad (worker_of w) q → ReadsQuads inside new → AreQuarters inside new q four → GivesQuarters (worker_of w) (worker_of new) q four
quarters_give w inside new q four v h r a =
    let j = r.keeps.after in
    record {
      nw = stands-has_quad new four.nw j a.nw;
      ne = stands-has_quad new four.ne j a.ne;
      sw = stands-has_quad new four.sw j a.sw;
      se = stands-has_quad new four.se j a.se;
      nw_height = a.nw_height;
      ne_height = a.ne_height;
      sw_height = a.sw_height;
      se_height = a.se_height;
      means = sym (set_inside w inside q v r.keeps.before h) ∙ a.means
          ∙ ap (λ (m : ℕ). quartered m (quad_cells new four.nw) (quad_cells new four.ne) (quad_cells new four.sw) (quad_cells new four.se)) (side_of-power four.nw.height a.nw.low)
          ∙ ap (λ (c : Cells). quartered (2 ^ four.nw.height) c (quad_cells new four.ne) (quad_cells new four.sw) (quad_cells new four.se)) (sym (quad_set-cells new four.nw j a.nw))
          ∙ ap (λ (c : Cells). quartered (2 ^ four.nw.height) (quad_set (worker_of new) four.nw) c (quad_cells new four.sw) (quad_cells new four.se)) (sym (quad_set-cells new four.ne j a.ne))
          ∙ ap (λ (c : Cells). quartered (2 ^ four.nw.height) (quad_set (worker_of new) four.nw) (quad_set (worker_of new) four.ne) c (quad_cells new four.se)) (sym (quad_set-cells new four.sw j a.sw))
          ∙ ap (λ (c : Cells). quartered (2 ^ four.nw.height) (quad_set (worker_of new) four.nw) (quad_set (worker_of new) four.ne) (quad_set (worker_of new) four.sw) c) (sym (quad_set-cells new four.se j a.se));
    }

-- ---- roots
pub root_gives : (w inside : Keeper) (r : Rel) (q : Quad) → inside ≡ w → IsKeeper inside → Stands (worker_of w) r → q ≡ root_quad r → GivesQuad (worker_of w) (height_over 3 r.rows r.cols) (has (set_of (worker_of w) r)) q
unfolding bottom_height
root_gives w inside r q v i h e =
    subst (λ (x : Quad). GivesQuad (worker_of w) (height_over 3 r.rows r.cols) (has (set_of (worker_of w) r)) x) (sym e)
    (is_quad-gives w (height_over 3 r.rows r.cols) (has (set_of (worker_of w) r)) (root_quad r) (subst IsKeeper v i) (record { same_height = refl; stands = root_stands w r h; means = sym (has-root w r h) }))

pub rel_gives : (w inside : Keeper) (m n : ℕ) (q : Quad) → inside ≡ w → IsKeeper inside → m ≤ size_limit → n ≤ size_limit → HasQuad (worker_of w) q → q.height ≡ height_over 3 m n → LiesWithin m n (quad_set (worker_of w) q)
    → Gives (worker_of w) m n (relation_of m n (quad_set (worker_of w) q)) (record { rows = m; cols = n; root = q.name })
unfolding bottom_height
rel_gives w inside m n q v i a b h e l =
    let s = has_quad-stands w q h in
    is_quad-relation w m n (quad_set (worker_of w) q) q a b l (record { same_height = e; stands = s; means = sym (quad_set-cells w q (subst IsKeeper v i) s) })

-- ---- rectangles
pub side_inside : (h n : ℕ) → 3 ≤ h → n ≤ 2 ^ h → n ≤ side_of h
unfolding bottom_height
side_inside h n l s = let p = side_of-power h l in omega (arith, p)

pub rect_room : (h : ℕ) (w inside new : Keeper) → inside ≡ w → KeepsQuads (quad_room h) inside new → MakesAtMost (tree_room (h - 3)) (worker_of w) (worker_of new)
unfolding bottom_height
rect_room h w inside new v k = subst (λ (x : Keeper). MakesAtMost (tree_room (h - 3)) (worker_of x) (worker_of new)) v k.room
