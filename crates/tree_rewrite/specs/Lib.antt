pub mod Rewritten
pub mod Visited
pub mod Run
pub mod Stacks
