mod Turn
mod Choices
mod Complete
mod Sound
mod Reading
