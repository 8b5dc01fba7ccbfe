pub mod Calls
pub mod Saying
pub mod Arguments
