pub mod Keyed
pub mod Edits
pub mod Listing
pub mod Moving
