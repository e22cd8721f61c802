pub mod Versions
pub mod Features
pub mod Targets
pub mod Faults
pub mod Words
