pub mod Parts
pub mod Spines
pub mod Clauses
pub mod Declared
pub mod Privates
pub mod Rolled
