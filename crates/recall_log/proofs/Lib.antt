pub mod Firsts
pub mod Walks
pub mod Appends
pub mod Keeps
pub mod Logs
pub mod Reading
pub mod Puts
pub mod Worked
