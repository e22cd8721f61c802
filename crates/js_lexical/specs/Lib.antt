pub mod Cursors
pub mod Digits
pub mod Strings
