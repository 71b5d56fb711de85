pub mod Again
pub mod Coordinates
pub mod Corners
pub mod Format
pub mod Reading
pub mod Spelling
