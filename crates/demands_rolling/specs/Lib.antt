pub mod Rolled
pub mod Handed
