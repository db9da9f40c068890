-- The image of a line by a relation, or by its transpose.
use Rattle.std.specs.Prelude.{Bool, true, false}
use Rattle.rel_model.specs.Relation.{Relation}
use Rattle.rel_model.specs.Operators.{transpose, compose}

-- `u*r`, or `(r*u^)^` if turned, which is `u*r^`
abbrev pub image_of : Bool → Relation → Relation → Relation
image_of false u r = compose u r
image_of true u r = transpose (compose r (transpose u))
