pub mod Running
pub mod Starts
