pub mod Format
pub mod Reading
pub mod Given
pub mod Writing
pub mod Inner
pub mod Told
pub mod Lending
pub mod Decoded
