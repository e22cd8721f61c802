pub mod Next
pub mod Classes
