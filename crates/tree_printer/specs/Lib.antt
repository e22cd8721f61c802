pub mod Pieces
pub mod Printed
pub mod Links
pub mod Openings
