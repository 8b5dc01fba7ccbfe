pub mod Thirteen
pub mod Figures
