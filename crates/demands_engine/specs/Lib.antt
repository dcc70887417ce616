pub mod Device
pub mod Trace
