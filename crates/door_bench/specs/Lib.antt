pub mod Bench
pub mod Referee
