pub mod Inside
pub mod Course
pub mod Next
pub mod Demands
pub mod Any
pub mod Witness
pub mod Due
pub mod Sessions
