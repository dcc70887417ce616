pub mod Laws
pub mod Cited
pub mod Staged
