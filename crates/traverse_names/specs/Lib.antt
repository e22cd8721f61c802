pub mod Identifier
pub mod Kept
pub mod Uid
