pub mod Leads
pub mod Words
pub mod Starts
pub mod Running
