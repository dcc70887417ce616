pub mod Recall
pub mod Finish
