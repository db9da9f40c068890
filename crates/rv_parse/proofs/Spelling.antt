-- Signs `^` are spelled with one more at their end.
use Rattle.std.proofs.Common.{ℕ, List, refl, subst, zero, suc}
use Rattle.lang_model.specs.declared.token.Kind.TheVariants.{Sign}
use Rattle.lang_model.specs.declared.token.Token.{Token}
use Rattle.lang_model.specs.Taken.{Takes, Carets}

pub carets_push : (n : ℕ) (start mid rest : List Token) → Carets n start mid → Takes (Sign 94) mid rest → Carets (suc n) start rest
carets_push zero start mid rest s t = (rest, subst (λ z. Takes (Sign 94) z rest) s t, refl)
carets_push (suc n) start mid rest s t = (s.0, s.1, carets_push n s.0 mid rest s.2 t)
