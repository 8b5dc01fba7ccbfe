pub mod Viewing
pub mod Joining
pub mod Answer
pub mod Told
pub mod Inner
