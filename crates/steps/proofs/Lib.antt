pub mod Frames
pub mod Places
pub mod Joins
pub mod Showing
pub mod Steps
pub mod Spare
pub mod Kept
pub mod Roomed
pub mod Enough
mod Calls
