pub mod Told
pub mod Accepted
