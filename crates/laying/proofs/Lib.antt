pub mod Limits
pub mod Checks
pub mod Sizes
pub mod Pieces
pub mod Whole
pub mod Cuts
