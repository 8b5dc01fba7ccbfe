pub mod Beginning
pub mod Pieces
pub mod Figure
pub mod Rooms
mod Climbing
mod Weights
pub mod Shorter
pub mod Tested
mod Reaching
mod Leaving
mod Calls
pub mod Arguments
