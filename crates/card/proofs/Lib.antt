pub mod Runs
pub mod Input
pub mod Round
pub mod Given
pub mod Cited
pub mod Turning
pub mod Whole
