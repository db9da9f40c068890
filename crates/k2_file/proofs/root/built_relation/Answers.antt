-- From where the levels begin, the pairs below the root are the file's.
use Rattle.std.proofs.Common.{◌-◌, ◌^◌, ◌∙◌, ap, arith}
use Rattle.rel_model.specs.Roots.{height_over}
use Rattle.rel_model.specs.Worker.{listed_room}
use Rattle.run_model.specs.Files.{levels_fit}
use Rattle.k2_file.specs.Told.{bits_in}
use Rattle.k2_file.specs.Form.{pairs_in}
use Rattle.k2_file.proofs.WriteHeights.{file_height-low, file_height-high}
use Rattle.k2_file.proofs.ReadListed.{form-within}
use Rattle.k2_file.proofs.ReadRoot.{root-there, root-count, root-cells, lies-listed, gives-listed}
use Rattle.k2_file.proofs.root.built_relation.Goals as goal

pub starts-places-requires-clause-low : goal.starts-places-requires-clause-low
starts-places-requires-clause-low g c = let h = c.args.form.now.header in omega (arith, c.requires.height, file_height-low h.rows h.cols)

pub starts-places-requires-clause-high : goal.starts-places-requires-clause-high
starts-places-requires-clause-high g c = let h = c.args.form.now.header in omega (arith, c.requires.height, file_height-high h.rows h.cols)

pub starts-places-requires-clause-fit : goal.starts-places-requires-clause-fit
starts-places-requires-clause-fit g c =
    let h = c.args.form.now.header in
    ap (λ n. levels_fit (h.height - 1) n (bits_in c.args.form.now.parts.tree) h.cell_count) c.groups-groups.ensures.value ∙ c.requires.fit

pub split_at_mut-used-requires : goal.split_at_mut-used-requires
split_at_mut-used-requires g c = let h = c.args.form.now.header in omega (arith, c.requires.height, file_height-high h.rows h.cols, c.starts-places.ensures.many)

pub built_root-requires-clause-there : goal.built_root-requires-clause-there
built_root-requires-clause-there g c =
    let form = c.args.form.now in
    let w = c.requires in
    let n = c.groups-groups.result in
    let used = c.split_at_mut-used.result.0.now in
    let starts = c.split_at_mut-used.ensures.front ∙ c.starts-places.ensures.value in
    root-there form w n c.groups-groups.ensures.limit c.groups-groups.ensures.value used starts

pub returns-in_err-quad-clause-few : goal.returns-in_err-quad-clause-few
returns-in_err-quad-clause-few g c =
    let form = c.args.form.now in
    let w = c.requires in
    let n = c.groups-groups.result in
    let used = c.split_at_mut-used.result.0.now in
    let starts = c.split_at_mut-used.ensures.front ∙ c.starts-places.ensures.value in
    let depth = height_over g.E.Core.least form.header.rows form.header.cols - g.E.Core.least in
    let same = ap (λ m. listed_room m depth) (root-count form w n c.groups-groups.ensures.limit c.groups-groups.ensures.value used starts) in
    omega (arith, same, c.in_err-quad.ensures.few)

pub rel-requires-clause-within : goal.rel-requires-clause-within
rel-requires-clause-within g c =
    let form = c.args.form.now in
    let w = c.requires in
    let n = c.groups-groups.result in
    let used = c.split_at_mut-used.result.0.now in
    let starts = c.split_at_mut-used.ensures.front ∙ c.starts-places.ensures.value in
    let high = height_over g.E.Core.least form.header.rows form.header.cols in
    lies-listed (g.E.Core.worker c.built_root.new.engine) high (2 ^ high) form.header.rows form.header.cols (pairs_in form) _ c.in_ok-quad.quad c.in_ok-quad.ensures.value
    (root-cells form w n c.groups-groups.ensures.limit c.groups-groups.ensures.value used starts (2 ^ high)) (form-within form w)

pub returns-clause-value : goal.returns-clause-value
returns-clause-value g c =
    let form = c.args.form.now in
    let w = c.requires in
    let n = c.groups-groups.result in
    let used = c.split_at_mut-used.result.0.now in
    let starts = c.split_at_mut-used.ensures.front ∙ c.starts-places.ensures.value in
    let high = height_over g.E.Core.least form.header.rows form.header.cols in
    gives-listed (g.E.Core.worker c.built_root.new.engine) g.E.Core.least form.header.rows form.header.cols (pairs_in form) _ c.in_ok-quad.quad c.rel.result w.row_limit w.col_limit c.in_ok-quad.ensures.value
    (root-cells form w n c.groups-groups.ensures.limit c.groups-groups.ensures.value used starts (2 ^ high)) c.rel.ensures

pub returns-clause-few : goal.returns-clause-few
returns-clause-few g c =
    let form = c.args.form.now in
    let w = c.requires in
    let n = c.groups-groups.result in
    let used = c.split_at_mut-used.result.0.now in
    let starts = c.split_at_mut-used.ensures.front ∙ c.starts-places.ensures.value in
    let depth = height_over g.E.Core.least form.header.rows form.header.cols - g.E.Core.least in
    let same = ap (λ m. listed_room m depth) (root-count form w n c.groups-groups.ensures.limit c.groups-groups.ensures.value used starts) in
    omega (arith, same, c.in_ok-quad.ensures.few)
