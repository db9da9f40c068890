-- The pairs of a relation are its pairs later on.
use Rattle.std.proofs.Common.{◌≡◌, ◌∙◌, ℕ, List, sym, ap}
use Rattle.rel_model.specs.declared.Rel.{Rel}
use Rattle.rel_model.specs.Relation.{Relation}
use Rattle.rel_model.specs.Worker.{Worker, Stands, Keeps, set_of}
use Rattle.rel_model.proofs.Workers.{keeps_set}

pub pairs_later : (a b : Worker) (r : Rel) (pairs : List (ℕ × ℕ)) → Keeps a b → Stands a r → pairs ≡ (set_of a r).pairs
    → pairs ≡ (set_of b r).pairs
pairs_later a b r pairs k h e = e ∙ sym (ap (λ (s : Relation). s.pairs) (keeps_set a b r k h))
