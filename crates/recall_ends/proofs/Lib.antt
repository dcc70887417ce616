pub mod Laws
pub mod Stages
pub mod Going
pub mod Loops
