pub mod Becomes
pub mod Converted
pub mod Bound
pub mod Parameters
