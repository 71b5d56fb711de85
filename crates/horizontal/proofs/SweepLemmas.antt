pub mod Begun
pub mod Events
pub mod Room
pub mod Status
