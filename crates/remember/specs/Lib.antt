pub mod Said
pub mod Remembered
