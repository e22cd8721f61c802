pub mod Gives
pub mod Nests
pub mod Plain
pub mod Read
