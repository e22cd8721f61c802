pub mod Parts
pub mod Switches
pub mod Plain
pub mod Babel
