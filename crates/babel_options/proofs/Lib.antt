mod Entered
mod Items
mod Levels
mod Named
mod Refusals
