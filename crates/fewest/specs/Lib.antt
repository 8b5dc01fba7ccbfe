pub mod Carrying
pub mod Cutting
pub mod Runs
pub mod Answers
pub mod Figure14
pub mod Delivering
