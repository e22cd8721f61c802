pub mod EscapeLaws
pub mod EscapeCuts
pub mod StringValues
pub mod Others
pub mod Lines
pub mod HashbangLaws
pub mod FlagWords
pub mod StringTokens
