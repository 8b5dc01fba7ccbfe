pub mod Lists
pub mod Outs
pub mod Drain
pub mod Each
pub mod Contracts
pub mod Run
pub mod RunEnd
pub mod Refuted
