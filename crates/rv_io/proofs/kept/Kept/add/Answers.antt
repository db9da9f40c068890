use Rattle.std.proofs.Common.{◌≡◌, is_ok, sym, subst}
use Rattle.rv_io.specs.Sure.{kept_at, with_first, IsPlaced}
use Rattle.rv_io.proofs.Keeping.{within-added, kept_at-added}
use Rattle.rv_io.proofs.kept.Kept.add.Goals as goal

pub invariant_of-self-2 : goal.invariant_of-self-2
invariant_of-self-2 c =
    let grown = c.in_ok-place.ensures.grown in
    record {
      within = within-added (is_ok c.insert.result) c.args.self.now.bytes.items c.append.new.bytes.items grown.0 c.as_bytes.result.now c.args.content.now c.args.self.now.places.items c.insert.new.self.items c.in_ok-place.place grown.1 c.args.self.now.within c.in_ok-place.ensures.placed c.insert.ensures.items;
    }

pub returns-in-Ok-clause-added : goal.returns-in-Ok-clause-added
returns-in-Ok-clause-added c =
    let grown = c.in_ok-place.ensures.grown in
    let old = c.args.self.now in
    let placed : IsPlaced c.args.name.now c.args.content.now c.append.new.bytes.items c.in_ok-place.place = subst (λ name. IsPlaced name c.args.content.now c.append.new.bytes.items c.in_ok-place.place) c.as_bytes.ensures.value c.in_ok-place.ensures.placed in
    λ other. subst (λ places. kept_at c.append.new.bytes.items places other ≡ with_first c.args.name.now c.args.content.now (kept_at old.bytes.items old.places.items) other) (sym c.in-Ok.ensures.items)
    (kept_at-added old.bytes.items c.append.new.bytes.items grown.0 c.args.name.now c.args.content.now old.places.items c.in_ok-place.place other grown.1 old.within placed)
