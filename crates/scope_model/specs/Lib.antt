pub mod Roles
pub mod Names
pub mod Scopes
pub mod Conflicts
pub mod Programs
pub mod Examples
pub mod ConflictExamples
