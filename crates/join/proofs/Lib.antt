mod Parts
mod Coming
mod Joins
pub mod Plain
pub mod Kept
pub mod Inner
mod Calls
pub mod Views
pub mod Untouched
pub mod Arguments
