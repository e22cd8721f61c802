pub mod Term
pub mod Kinds
pub mod Scope
pub mod Lexeme
pub mod Node
pub mod Spells
pub mod Form
pub mod Examples
