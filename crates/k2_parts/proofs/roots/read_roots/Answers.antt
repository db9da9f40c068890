-- Each named root moves from the rest behind those that were read.
use Rattle.std.proofs.Common.{◌≡◌, ◌+◌, ◌-◌, suc, ℕ, List, drop, length, sym, ap, subst, arith, refl}
use Rattle.run_model.specs.SharedFiles.{entry_fault}
use Rattle.k2_file.specs.Told.{IsFaultOf}
use Rattle.k2_parts.specs.declared.form.NamedRoot.{NamedRoot as NAMED}
use Rattle.k2_parts.specs.Told.{quadrants_told}
use Rattle.k2_parts.specs.Roots.{IsRootOf, last_name}
use Rattle.k2_parts.proofs.Listing.{tail}
use Rattle.k2_parts.proofs.Entering.{fault-next, next, read_end}
use Rattle.k2_parts.proofs.roots.read_roots.Goals as goal

pub returns-in-Err-clause-fault : goal.returns-in-Err-clause-fault
returns-in-Err-clause-fault c =
    let bytes = c.args.bytes.now in
    let s = c.args.squares.now in
    let e : c.args.count - c.roots.counter ≡ suc (c.args.count - (c.roots.counter + 1)) = omega (arith, c.roots-test.true) in
    fault-next s c.args.count bytes (c.args.count - c.roots.counter) c.roots.end (c.args.count - (c.roots.counter + 1)) c.roots.roots.items c.roots.invariant e c.in-Err.fault
    (subst (λ (xs : List NAMED). IsFaultOf (entry_fault (quadrants_told s.quads.now) s.heights.now (length xs) (last_name xs) (drop c.roots.end bytes)) c.in-Err.fault) c.as_slice.ensures.value
    (subst (λ (xs : List ℕ). IsFaultOf (entry_fault (quadrants_told s.quads.now) s.heights.now (length c.as_slice.result.now) (last_name c.as_slice.result.now) xs) c.in-Err.fault) (tail c.roots.end bytes) c.in-Err.ensures.fault))

pub roots-preserved : goal.roots-preserved
roots-preserved c =
    let bytes = c.args.bytes.now in
    let s = c.args.squares.now in
    let root = c.in-Ok.root in
    let e : c.args.count - c.roots.counter ≡ suc (c.args.count - (c.roots.counter + 1)) = omega (arith, c.roots-test.true) in
    next s c.args.count bytes (c.args.count - c.roots.counter) c.roots.end (c.args.count - (c.roots.counter + 1)) c.roots.roots.items c.roots.invariant e root
    (subst (λ (xs : List NAMED). IsRootOf s xs (drop c.roots.end bytes) root) c.as_slice.ensures.value
    (subst (λ (xs : List ℕ). IsRootOf s c.as_slice.result.now xs root) (tail c.roots.end bytes) c.in-Ok.ensures.root))
    (c.roots.end + (13 + length c.bytes.result.now)) c.push.new.self.items (ap (λ (xs : List ℕ). c.roots.end + (13 + length xs)) c.bytes.ensures) c.in-Ok-push.ensures.items

pub returns-clause-roots : goal.returns-clause-roots
returns-clause-roots c =
    let s = c.args.squares.now in
    read_end s c.args.count c.args.bytes.now (c.args.count - c.roots.counter) c.roots.end (record { roots = c.roots.roots; end = c.roots.end }) (sym c.requires.sound.heights_are) refl c.roots.invariant
    (omega (arith, c.roots-test.false))
