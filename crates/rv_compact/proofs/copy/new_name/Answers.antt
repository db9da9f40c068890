use Rattle.std.proofs.Common.{◌∙◌, ◌<◌, sym, rules, length}
use Rattle.rv_compact.proofs.Naming.{place_below, named_at, not_found}
use Rattle.rv_compact.proofs.copy.new_name.Goals as goal

pub bounds-names-index : goal.bounds-names-index
bounds-names-index c = place_below c.args.uses.now.keys (length c.args.names.now) c.args.depth c.args.name _ c.if-name-eq0.false c.requires (sym c.get_index_of.ensures.index ∙ c.in-Some.is)

pub offset_bounds-names-index : goal.offset_bounds-names-index
offset_bounds-names-index c =
    let l : c.in-Some.index < length c.args.names.now = place_below c.args.uses.now.keys (length c.args.names.now) c.args.depth c.args.name _ c.if-name-eq0.false c.requires (sym c.get_index_of.ensures.index ∙ c.in-Some.is) in
    search rules

pub returns-in-Some : goal.returns-in-Some
returns-in-Some c = named_at c.args.uses.now.keys c.args.names.now c.args.depth c.args.name _ c.if-name-eq0.false c.requires (sym c.get_index_of.ensures.index ∙ c.in-Some.is)

pub returns-in-None : goal.returns-in-None
returns-in-None c = absurd (not_found c.args.uses.now.keys (length c.args.names.now) c.args.depth c.args.name c.if-name-eq0.false c.requires (sym c.in-None.ensures.found))
