pub mod Steps
pub mod Recalls
pub mod Witness
pub mod Calls
pub mod Messages
pub mod Cited
