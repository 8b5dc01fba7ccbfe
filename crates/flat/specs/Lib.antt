pub mod Told
pub mod Given
pub mod Answers
