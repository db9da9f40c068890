pub mod Curve
pub mod Rules
pub mod Ranks
pub mod Refusals
pub mod Laws
pub mod Singles
