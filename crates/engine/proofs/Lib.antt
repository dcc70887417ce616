pub mod Calls
pub mod Beginning
pub mod Laws
pub mod Held
pub mod Maps
pub mod Drivers
pub mod Listed
