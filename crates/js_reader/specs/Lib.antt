pub mod Reads
pub mod Edges
pub mod NodeParts
pub mod Summed
pub mod Operations
