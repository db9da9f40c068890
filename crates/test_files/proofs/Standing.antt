-- Relations that were read stand.
use Rattle.std.proofs.Common.{ℕ, List, [], ◌∷◌}
use Rattle.std.specs.List.{AllByRecursion}
use Rattle.rel_model.specs.declared.Rel.{Rel}
use Rattle.rel_model.specs.Relation.{Relation}
use Rattle.rel_model.specs.Worker.{Worker, Stands}
use Rattle.rel_model.proofs.Workers.{gives_stands}
use Rattle.k2_read.specs.Reading.{AreRead}

pub all_stand : (w : Worker) (es : List (List ℕ × Relation)) (xs : List (List ℕ × Rel)) → AreRead w es xs → AllByRecursion (λ x. Stands w x.1) xs
all_stand w [] [] h = tt
all_stand w [] (x ∷ xs) h = absurd h
all_stand w (e ∷ es) [] h = absurd h
all_stand w (e ∷ es) (x ∷ xs) h = (gives_stands w e.1.rows e.1.cols e.1 x.1 h.0.gives, all_stand w es xs h.1)
