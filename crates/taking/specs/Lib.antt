pub mod Taking
pub mod Answer
pub mod Told
pub mod Inner
pub mod Follow
pub mod Cleared
pub mod Forgetting
