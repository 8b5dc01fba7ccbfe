pub mod Arrivals
pub mod Checked
pub mod After
pub mod Keeps
