pub mod Numbers
pub mod Views
pub mod Recordings
