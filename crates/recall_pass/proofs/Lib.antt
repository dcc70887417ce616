pub mod Rows
pub mod Calls
pub mod Messages
pub mod Laws
pub mod Walks
