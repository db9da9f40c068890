-- Calls that only read, one after the other.
use Rattle.std.proofs.Common.{◌∙◌, refl, arith}
use Rattle.rel_model.specs.Worker.{Worker, Keeps, MakesAtMost, MissesNothing}
use Rattle.rel_model.proofs.Workers.{keeps_itself, keeps_trans}
use Rattle.rel_steps.specs.Reading.{OnlyReads}

-- the three clauses of such a call
pub reads : {v w : Worker} → Keeps v w → MakesAtMost 0 v w → MissesNothing v w → OnlyReads v w
reads k r m = record { keeps = k; room = r; misses = m }

-- no call
pub reads_itself : (w : Worker) → OnlyReads w w
reads_itself w = record { keeps = keeps_itself w; room = omega arith; misses = refl }

-- one call more
pub reads_on : {u v w : Worker} → OnlyReads u v → OnlyReads v w → OnlyReads u w
reads_on {u} {v} {w} s t = record {
  keeps = keeps_trans u v w s.keeps t.keeps;
  room = (let a = s.room in let b = t.room in omega (arith, a, b));
  misses = t.misses ∙ s.misses;
}

-- one call more, by its clauses
pub reads_more : {u v w : Worker} → OnlyReads u v → Keeps v w → MakesAtMost 0 v w → MissesNothing v w → OnlyReads u w
reads_more s k r m = reads_on s (reads k r m)
