pub mod Ruled
pub mod Calls
pub mod Laws
pub mod Time
pub mod Steps
