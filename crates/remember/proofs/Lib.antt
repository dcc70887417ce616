pub mod Plays
pub mod Records
pub mod Turning
pub mod Whole
pub mod Cited
pub mod Alike
