use Rattle.std.proofs.Common.{◌&&◌, leb, sym, ap, ◌∙◌, get_or}
use Rattle.std.proofs.lemmas.Bool.{le-leb, lt-leb}
use Rattle.run_model.specs.Files.{file_height}
use Rattle.k2_parts.proofs.Reaching.{no_extent, root_within, root_fits}
use Rattle.k2_parts.proofs.extents.fits.Goals as goal

pub bounds-extents-root : goal.bounds-extents-root
bounds-extents-root c =
    root_within c.args.quads.now c.args.heights.now c.requires.sound c.args.extents.now c.requires.reached
    (file_height c.args.rows c.args.cols) c.args.root c.requires.root

pub returns-then-extent-rows : goal.returns-then-extent-rows
returns-then-extent-rows c =
    let e = get_or c.args.extents.now c.args.root no_extent in
    sym (ap (λ b. b && leb e.cols c.args.cols) (le-leb e.rows c.args.rows c.if-extent-rows.true))
    ∙ root_fits c.args.quads.now c.args.heights.now c.requires.sound c.args.extents.now c.requires.reached
    (file_height c.args.rows c.args.cols) c.args.root c.requires.root c.args.rows c.args.cols

pub returns-else-extent-rows : goal.returns-else-extent-rows
returns-else-extent-rows c =
    let e = get_or c.args.extents.now c.args.root no_extent in
    let n = lt-leb e.rows c.args.rows c.if-extent-rows.false in
    n
    ∙ (sym (ap (λ b. b && leb e.cols c.args.cols) n)
    ∙ root_fits c.args.quads.now c.args.heights.now c.requires.sound c.args.extents.now c.requires.reached
    (file_height c.args.rows c.args.cols) c.args.root c.requires.root c.args.rows c.args.cols)
