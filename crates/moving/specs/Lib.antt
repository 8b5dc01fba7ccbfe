pub mod Moving
pub mod Told
pub mod Answer
