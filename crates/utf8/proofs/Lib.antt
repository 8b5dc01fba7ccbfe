pub mod Tests
pub mod Forms
pub mod Encoding
pub mod Decoding
pub mod Laws
mod Passing
mod Blocks
mod Judging
pub mod Single
