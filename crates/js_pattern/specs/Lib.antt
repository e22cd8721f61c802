pub mod Patterns
pub mod Scan
