pub mod Late
pub mod Laws
pub mod Names
pub mod Packed
pub mod Stays
