pub mod Along
pub mod Written
pub mod Once
