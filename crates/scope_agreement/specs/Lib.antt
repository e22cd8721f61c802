pub mod Sites
pub mod Agrees
pub mod Resolving
