pub mod Sides
pub mod Beside
pub mod InC
