pub mod Header
pub mod Puts
