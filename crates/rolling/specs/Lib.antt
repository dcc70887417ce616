pub mod LentRolling
pub mod Ruled
