pub mod Arriving
pub mod Answer
pub mod Told
pub mod Inner
