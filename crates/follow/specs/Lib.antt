pub mod Refereed
pub mod Following
