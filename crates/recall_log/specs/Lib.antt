pub mod Log
pub mod Kept
