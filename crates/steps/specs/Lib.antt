pub mod Answer
pub mod Stepping
pub mod Told
pub mod Inner
