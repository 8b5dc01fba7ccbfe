pub mod Cutting
pub mod Inner
