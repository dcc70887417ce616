pub mod Open
pub mod Steps
pub mod Saying
pub mod Pieces
pub mod Worked
