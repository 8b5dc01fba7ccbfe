pub mod Fields
pub mod Singles
pub mod Parts
pub mod FixedPart
pub mod Whole
