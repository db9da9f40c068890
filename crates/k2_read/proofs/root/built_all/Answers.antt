-- One more root is read; and where one is not, the nodes are within those of all.
use Rattle.std.proofs.Common.{◌≡◌, ◌++◌, ◌∷◌, [], ◌∙◌, append_assoc, sym, ap, arith}
use Rattle.std.specs.Vec.Iter.{into_iter_items}
use Rattle.k2_parts.specs.Told.{quadrants_told}
use Rattle.k2_read.proofs.Lists.{so-more, so-within}
use Rattle.k2_read.proofs.root.built_all.Goals as goal

pub roots-preserved : goal.roots-preserved
roots-preserved g c =
    let quads = quadrants_told c.args.quads.now in
    let more = into_iter_items c.next.new.self in
    let root = c.in-Some.root in
    let e = c.in_ok-push_built.ensures in
    let step : into_iter_items c.roots.root-iterator ≡ root ∷ more = c.in-Some.ensures.steps.0 in
    let same = c.push_built.auto.noted in (
      tt,
      tt,
      c.roots.invariant.2 ∙ ap (λ zs. c.roots.yielded ++ zs) step ∙ sym (append_assoc c.roots.yielded (root ∷ []) more),
      omega (arith, same, c.roots.invariant.3),
      so-more g.E.Core.least quads c.roots.noted c.push_built.new.noted c.roots.yielded c.roots.list.items c.push_built.new.list.items (g.E.Core.worker c.args.engine.now) (g.E.Core.worker c.roots.engine) (g.E.Core.worker c.push_built.new.engine)
          root e.pushed.0 c.roots.invariant.4 e.pushed.1 e.pushed.2 e.keeps e.room e.cause.done e.noted,
    )

pub returns-in_err-push_built-clause-room : goal.returns-in_err-push_built-clause-room
returns-in_err-push_built-clause-room g c =
    let quads = quadrants_told c.args.quads.now in
    let more = into_iter_items c.next.new.self in
    let root = c.in-Some.root in
    let step : into_iter_items c.roots.root-iterator ≡ root ∷ more = c.in-Some.ensures.steps.0 in
    so-within g.E.Core.least quads c.roots.noted c.roots.yielded more c.args.roots.items c.roots.list.items (g.E.Core.worker c.args.engine.now) (g.E.Core.worker c.roots.engine) (g.E.Core.worker c.push_built.new.engine)
    root c.roots.invariant.4 (c.roots.invariant.2 ∙ ap (λ zs. c.roots.yielded ++ zs) step) c.in_err-push_built.ensures.room
