pub mod Keyed
pub mod Table
pub mod Unresolved
