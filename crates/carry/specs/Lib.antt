pub mod Digits
pub mod Message
pub mod There
pub mod Back
pub mod Inner
pub mod Crossing
pub mod Figure14
