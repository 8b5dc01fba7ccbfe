pub mod Answer
pub mod Given
pub mod Writing
pub mod Inner
pub mod Figure14
pub mod Lending
