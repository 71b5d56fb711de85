pub mod Events
pub mod Heights
pub mod Levels
