-- When a relation is not shown.
use Rattle.std.specs.Prelude.{◌≡◌, ◌<◌, ℕ}
use Rattle.run_model.specs.declared.outcome.Unit.{Unit as COUNTED}
use Rattle.rv_print.specs.declared.refused.PrintRefused.{PrintRefused}
use Rattle.rv_print.specs.declared.refused.PrintRefused.TheVariants.{TooLarge, NoMemory}

-- a refusal for size comes only over the limit, and reports how many of what are wanted
abbrev pub IsOver : ℕ → ℕ → COUNTED → PrintRefused → Type 0
IsOver limit wanted counted (TooLarge told unit) = (limit < wanted) × (told ≡ wanted) × (unit ≡ counted)
IsOver limit wanted counted NoMemory = Unit {0}
