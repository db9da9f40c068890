use Rattle.rv_sessions.proofs.Valuing.{in_form}
use Rattle.rv_sessions.proofs.value.shown_on.Goals as goal

pub returns-in-Matrix : goal.returns-in-Matrix
returns-in-Matrix g c = in_form c.in-Matrix.is c.printed_on.ensures

pub returns-in-Listing : goal.returns-in-Listing
returns-in-Listing g c = in_form c.in-Listing.is c.listed_on.ensures

pub returns-in-Count : goal.returns-in-Count
returns-in-Count g c = in_form c.in-Count.is c.counted_on.ensures

pub returns-in-Typed : goal.returns-in-Typed
returns-in-Typed g c = in_form c.in-Typed.is c.typed_on.ensures

pub returns-in-File : goal.returns-in-File
returns-in-File g c = in_form c.in-File.is c.filed_on.ensures
