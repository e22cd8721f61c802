pub mod Shape
pub mod Resolved
pub mod Meaning
pub mod Same
pub mod ReadBack
pub mod Run
pub mod Deps
pub mod Examples
