use Rattle.fork_quads.proofs.Crewing.{keeps_counting}
use Rattle.fork_quads.proofs.Quartering.{stands_inside, corner_gives, corner_found}
use Rattle.fork_quads.proofs.squares.CrewQuads.corner.Goals as goal

pub corner-requires-clause-nw_stands : goal.corner-requires-clause-nw_stands
corner-requires-clause-nw_stands g c = let s = stands_inside c.args.self.now c.self.inside.nodes in let h = c.requires in search (s, c.self.view_is)

pub corner-requires-clause-ne_stands : goal.corner-requires-clause-ne_stands
corner-requires-clause-ne_stands g c = let s = stands_inside c.args.self.now c.self.inside.nodes in let h = c.requires in search (s, c.self.view_is)

pub corner-requires-clause-sw_stands : goal.corner-requires-clause-sw_stands
corner-requires-clause-sw_stands g c = let s = stands_inside c.args.self.now c.self.inside.nodes in let h = c.requires in search (s, c.self.view_is)

pub corner-requires-clause-se_stands : goal.corner-requires-clause-se_stands
corner-requires-clause-se_stands g c = let s = stands_inside c.args.self.now c.self.inside.nodes in let h = c.requires in search (s, c.self.view_is)

pub returns-clause-value : goal.returns-clause-value
returns-clause-value g c =
    corner_gives c.args.self.now c.self.inside.nodes c.corner.new.self c.args.nw c.args.ne c.args.sw c.args.se c.corner.result c.told.result c.self.view_is c.corner.ensures.keeps.before c.corner.ensures.keeps.after
    c.requires.nw_stands c.requires.ne_stands c.requires.sw_stands c.requires.se_stands c.corner.ensures.value c.told.ensures

pub returns-clause-stood : goal.returns-clause-stood
returns-clause-stood g c =
    corner_found c.args.self.now c.self.inside.nodes c.corner.new.self c.args.nw c.args.ne c.args.sw c.args.se c.corner.result c.told.result c.self.view_is c.corner.ensures.keeps.before
    c.requires.nw_stands c.requires.ne_stands c.requires.sw_stands c.requires.se_stands c.corner.ensures.stood c.told.ensures

pub returns-clause-keeps : goal.returns-clause-keeps
returns-clause-keeps g c = keeps_counting 3 c.args.self.now c.self.inside.nodes c.corner.new.self c.corner.result c.self.view_is c.corner.ensures.keeps c.corner.ensures.counts
