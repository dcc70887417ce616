pub mod Feed
pub mod Play
