-- Definitions of heights of edges, of edges that cross, and of the active edges along a sweep line.
pub mod Active
pub mod Begun
pub mod Crossings
pub mod Growing
pub mod Heights
pub mod Line
