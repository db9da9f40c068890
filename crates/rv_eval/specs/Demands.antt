-- What base calls require of their operands.
use Rattle.std.specs.Prelude.{Bool, true, false}
use Rattle.lang_model.specs.declared.syntax.Base.{Base}
use Rattle.lang_model.specs.declared.syntax.Base.TheVariants.{I, Trans, Refl, Less, Hasse, Quot, Epsi, Point, Init, Next, Inj}
use Rattle.lang_model.specs.declared.syntax.Base.TheVariants.{Ubd, Lbd, Least, Greatest, Sup, Inf}
use Rattle.rv_eval.specs.declared.bases.Demand.{Demand}
use Rattle.rv_eval.specs.declared.bases.Demand.TheVariants.{Nothing, Square, OneColumn}

-- what a base call of one operand requires of it
abbrev pub demanded : Base → Demand
demanded I = Square
demanded Trans = Square
demanded Refl = Square
demanded Less = Square
demanded Hasse = Square
demanded Quot = Square
demanded Epsi = OneColumn
demanded Point = OneColumn
demanded Init = OneColumn
demanded Next = OneColumn
demanded Inj = OneColumn
demanded _ = Nothing

-- whether a base call of two operands asks for bounds or extremes; its first operand must then be square, and the
-- second have as many rows
abbrev pub bounds : Base → Bool
bounds Ubd = true
bounds Lbd = true
bounds Least = true
bounds Greatest = true
bounds Sup = true
bounds Inf = true
bounds _ = false
