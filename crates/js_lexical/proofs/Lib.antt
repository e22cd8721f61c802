pub mod Decoded
mod Identifiers
mod Parts
mod Sound
