pub mod Counting
pub mod Plans
pub mod Packets
pub mod Arguments
