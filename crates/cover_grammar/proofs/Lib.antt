pub mod Converting
pub mod Parting
pub mod Binds
pub mod Formed
