pub mod Answer
pub mod Listing
pub mod Calling
pub mod Running
pub mod Covering
pub mod Undamaged
pub mod Parts
pub mod Inner
