pub mod Profile
pub mod Walk
pub mod Inner
pub mod Told
pub mod Read
