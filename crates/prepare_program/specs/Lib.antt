pub mod Words
pub mod Request
pub mod Prepared
pub mod Report
pub mod Run
