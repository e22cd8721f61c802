pub mod Seen
pub mod Contexts
pub mod SortsSeen
pub mod OuterSeen
