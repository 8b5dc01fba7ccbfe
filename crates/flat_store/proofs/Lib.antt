mod Telling
pub mod Viewing
mod Checked
