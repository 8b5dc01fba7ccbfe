pub mod Placing
pub mod Answers
pub mod Fitting
pub mod Choosing
