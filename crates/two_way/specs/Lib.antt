pub mod Again
pub mod Writable
pub mod Same
