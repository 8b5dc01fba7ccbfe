pub mod Passing
pub mod Judging
pub mod Calls
