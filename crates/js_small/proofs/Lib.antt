pub mod Agree
pub mod Declares
pub mod Distinct
pub mod Forms
pub mod NamesKnown
pub mod Single
