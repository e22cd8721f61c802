pub mod Names
pub mod Reading
pub mod Hiding
pub mod Collecting
