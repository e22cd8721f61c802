pub mod Names
pub mod Whole
pub mod Asking
pub mod Given
pub mod OneWord
pub mod Reasons
pub mod Statuses
pub mod Texts
