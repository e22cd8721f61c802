pub mod Causes
pub mod Memory
pub mod Sure
pub mod Taken
