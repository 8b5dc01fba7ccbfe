pub mod Answer
pub mod Recording
pub mod Handing
pub mod Ending
