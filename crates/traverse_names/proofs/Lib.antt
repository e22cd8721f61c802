mod Catalogue
mod Characters
mod Counting
mod Cut
mod Entries
mod Fresh
mod Identifiers
mod Parts
