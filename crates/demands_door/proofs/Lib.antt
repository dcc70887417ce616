pub mod Inside
pub mod Course
pub mod Demands
pub mod Any
pub mod Due
pub mod Sessions
