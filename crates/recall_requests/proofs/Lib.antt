pub mod Checks
pub mod Admission
pub mod Rooms
