use Rattle.std.proofs.Common.{refl}
use Rattle.rel_model.specs.Cells.{cells_rect}
use Rattle.rel_model.specs.Trees.{bottom_height}
use Rattle.rel_model.specs.Quads.{quad_room}
use Rattle.fork_quads.proofs.Crewing.{keeps_counting}
use Rattle.fork_quads.proofs.Quartering.{told_gives, told_found, side_inside, rect_room}
use Rattle.fork_quads.proofs.squares.CrewQuads.rect.Goals as goal

pub rect-requires : goal.rect-requires
unfolding bottom_height
rect-requires g c = record { low = c.requires.low; high = c.requires.high; row = side_inside c.args.height c.args.rows c.requires.low c.requires.row; col = side_inside c.args.height c.args.cols c.requires.low c.requires.col }

pub returns-clause-value : goal.returns-clause-value
returns-clause-value g c =
    told_gives c.rect.new.self c.args.height (cells_rect c.args.rows c.args.cols) (cells_rect c.args.rows c.args.cols) c.rect.result c.told.result c.rect.ensures.keeps.after refl c.rect.ensures.value c.told.ensures

pub returns-clause-stood : goal.returns-clause-stood
returns-clause-stood g c =
    told_found c.args.self.now c.self.inside.nodes c.rect.new.self c.args.height (cells_rect c.args.rows c.args.cols) (cells_rect c.args.rows c.args.cols) c.rect.result c.told.result c.self.view_is c.rect.ensures.keeps.before refl c.rect.ensures.stood c.told.ensures

pub returns-clause-keeps : goal.returns-clause-keeps
returns-clause-keeps g c = keeps_counting (quad_room c.args.height) c.args.self.now c.self.inside.nodes c.rect.new.self c.rect.result c.self.view_is c.rect.ensures.keeps c.rect.ensures.counts

pub returns-clause-room : goal.returns-clause-room
returns-clause-room g c = rect_room c.args.height c.args.self.now c.self.inside.nodes c.rect.new.self c.self.view_is c.rect.ensures.keeps
