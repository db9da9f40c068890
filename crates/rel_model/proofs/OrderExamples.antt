-- Small orders and classes, computed from the definitions.
use Rattle.std.proofs.Common.{◌≡◌, [], ◌∷◌, refl}
use Rattle.rel_model.specs.Relation.{Relation, relation_of}
use Rattle.rel_model.specs.Operators.{inter}
use Rattle.rel_model.specs.Orders.{less, hasse, upper_bounds, lower_bounds, least, greatest, suprema, infima, classes}

-- the divisors of 6 in the order 1, 2, 3, 6, by divisibility
abbrev divides : Relation
divides = record {
  rows = 4;
  cols = 4;
  pairs = (0, 0) ∷ (0, 1) ∷ (0, 2) ∷ (0, 3) ∷ (1, 1) ∷ (1, 3) ∷ (2, 2) ∷ (2, 3) ∷ (3, 3) ∷ [];
}

-- the set of 2 and 3
abbrev middle : Relation
middle = record { rows = 4; cols = 1; pairs = (1, 0) ∷ (2, 0) ∷ [] }

the_order_of_numbers : (less 3).pairs ≡ (0, 1) ∷ (0, 2) ∷ (1, 2) ∷ []
unfolding less relation_of
the_order_of_numbers = refl

the_diagram : (hasse divides).pairs ≡ (0, 1) ∷ (0, 2) ∷ (1, 3) ∷ (2, 3) ∷ []
unfolding hasse relation_of
the_diagram = refl

the_bounds : ((upper_bounds divides middle).pairs ≡ (3, 0) ∷ []) × ((lower_bounds divides middle).pairs ≡ (0, 0) ∷ [])
unfolding upper_bounds lower_bounds relation_of
the_bounds = (refl, refl)

no_extremes : ((least divides middle).pairs ≡ []) × ((greatest divides middle).pairs ≡ [])
unfolding least greatest inter upper_bounds lower_bounds relation_of
no_extremes = (refl, refl)

supremum_and_infimum : ((suprema divides middle).pairs ≡ (3, 0) ∷ []) × ((infima divides middle).pairs ≡ (0, 0) ∷ [])
unfolding suprema infima least greatest inter upper_bounds lower_bounds relation_of
supremum_and_infimum = (refl, refl)

-- an equivalence with the classes {1, 3} and {2}
abbrev equal_parity : Relation
equal_parity = record { rows = 3; cols = 3; pairs = (0, 0) ∷ (0, 2) ∷ (1, 1) ∷ (2, 0) ∷ (2, 2) ∷ [] }

its_classes : classes equal_parity ≡ record { rows = 3; cols = 2; pairs = (0, 0) ∷ (1, 1) ∷ (2, 0) ∷ [] }
unfolding classes relation_of
its_classes = refl

no_classes : classes (record { rows = 0; cols = 0; pairs = [] }) ≡ record { rows = 0; cols = 0; pairs = [] }
unfolding classes relation_of
no_classes = refl
