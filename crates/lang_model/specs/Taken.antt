-- Tokens that a tree takes from the front, and how deeply constructs may nest. Each relation has as arguments the
-- tokens before and after.
use Rattle.std.specs.Prelude.{◌≡◌, ℕ, List, ◌∷◌, zero, suc}
use Rattle.lang_model.specs.declared.syntax.Place.{Place}
use Rattle.lang_model.specs.declared.token.Kind.{Kind}
use Rattle.lang_model.specs.declared.token.Kind.TheVariants.{Sign}
use Rattle.lang_model.specs.declared.token.Token.{Token}

-- the first token is of this kind and at this place
abbrev pub TakesAt : Place → Kind → List Token → List Token → Type 0
TakesAt at kind tokens rest = tokens ≡ record { at = at; kind = kind } ∷ rest

-- the first token is of this kind
abbrev pub Takes : Kind → List Token → List Token → Type 0
Takes kind tokens rest = (at : Place) × TakesAt at kind tokens rest

-- a number of signs ^
abbrev pub Carets : ℕ → List Token → List Token → Type 0
Carets zero tokens rest = rest ≡ tokens
Carets (suc n) tokens rest = (mid : List Token) × Takes (Sign 94) tokens mid × Carets n mid rest
