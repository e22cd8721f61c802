pub mod Punctuators
pub mod Summing
pub mod Converting
pub mod Parting
pub mod Binds
pub mod Formed
