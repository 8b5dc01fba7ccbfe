pub mod Text
pub mod Test
pub mod Places
pub mod Samples
