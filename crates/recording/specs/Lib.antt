pub mod Recording
pub mod Recorded
