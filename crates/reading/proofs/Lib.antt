pub mod Widths
pub mod Walks
pub mod Found
pub mod Laws
pub mod Steps
