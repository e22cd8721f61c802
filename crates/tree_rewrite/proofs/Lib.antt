pub mod Lists
pub mod Turning
pub mod Seeing
pub mod Scopes
pub mod Stacked
pub mod Still
