pub mod Laws
pub mod Config
pub mod Alive
pub mod Extended
pub mod Same
