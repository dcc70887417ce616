pub mod Beside
pub mod Referee
pub mod InC
pub mod Worked
