-- The bounds and extremes, with respect to an order, of the columns of a relation.
use Rattle.rel_model.specs.Relation.{Relation}
use Rattle.rel_model.specs.Orders.{upper_bounds, lower_bounds, least, greatest, suprema, infima}
use Rattle.rel_values.specs.declared.orders.Bound.{Bound}
use Rattle.rel_values.specs.declared.orders.Bound.TheVariants.{Upper, Lower, Least, Greatest, Suprema, Infima}

-- the relation of these bounds or extremes
abbrev pub bound_of : Bound → Relation → Relation → Relation
bound_of Upper r s = upper_bounds r s
bound_of Lower r s = lower_bounds r s
bound_of Least r s = least r s
bound_of Greatest r s = greatest r s
bound_of Suprema r s = suprema r s
bound_of Infima r s = infima r s
