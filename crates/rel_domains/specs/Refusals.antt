-- Refusals for lack of nodes or memory, as those of operations on domains.
use Rattle.rel_model.specs.declared.Lack.{Lack}
use Rattle.rel_model.specs.declared.Lack.TheVariants.{Full as LackFull, NoMemory as LackNoMemory}
use Rattle.rel_model.specs.declared.faults.DomainError.{DomainError}
use Rattle.rel_model.specs.declared.faults.DomainError.TheVariants.{Full, NoMemory}

-- the same cause, for a call that may also be refused for a size
abbrev pub refusal_of : Lack → DomainError
refusal_of LackFull = Full
refusal_of LackNoMemory = NoMemory
