pub mod Names
pub mod Collecting
