pub mod Among
pub mod Reading
pub mod Sending
pub mod Store
pub mod Salvaging
pub mod Pdus
pub mod Carrying
pub mod Calls
