pub mod Sides
pub mod Alike
pub mod InC
pub mod Any
pub mod Witness
