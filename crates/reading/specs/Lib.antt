pub mod Walk
pub mod Structures
