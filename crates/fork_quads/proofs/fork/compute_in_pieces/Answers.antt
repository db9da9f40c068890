use Rattle.fork_quads.proofs.Tiling.{last_few}
use Rattle.fork_quads.proofs.Joining.{all_hold, job_pieces, job_missed, pieces_some, pieces_few}
use Rattle.fork_quads.proofs.fork.compute_in_pieces.Goals as goal

pub groups-requires-clause-more : goal.groups-requires-clause-more
groups-requires-clause-more g c = pieces_some c.args.job.cuts c.count_of-past.result c.count_of-past.ensures

pub groups-requires-clause-within : goal.groups-requires-clause-within
groups-requires-clause-within g c = pieces_few c.args.job.cuts c.count_of-past.result c.requires.cut c.count_of-past.ensures

pub gathered-requires-clause-pieces : goal.gathered-requires-clause-pieces
gathered-requires-clause-pieces g c = all_hold c.groups.new.nodes c.args.job _ c.count_of-past.result c.in-Ok.found c.count_of-past.ensures c.in-Ok.ensures.value

pub gathered-requires-clause-within : goal.gathered-requires-clause-within
gathered-requires-clause-within g c = last_few c.args.job.cuts c.requires.cut

pub returns-in-Ok : goal.returns-in-Ok
returns-in-Ok g c = job_pieces c.bottom.ensures.work c.requires.can c.requires.over c.count_of-past.ensures c.in-Ok.ensures c.gathered.ensures

pub returns-in-Err : goal.returns-in-Err
returns-in-Err g c = job_missed c.bottom.ensures.work c.requires.can c.requires.over c.count_of-past.ensures c.in-Err.ensures
