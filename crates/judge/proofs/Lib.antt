pub mod Laws
pub mod Bytes
pub mod Going
pub mod Loops
