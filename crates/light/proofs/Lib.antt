pub mod FixedPart
pub mod Header
pub mod Plain
