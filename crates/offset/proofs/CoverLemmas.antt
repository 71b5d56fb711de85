-- Lemmas of what covers a sum.
pub mod Cover
pub mod Directions
pub mod Least
pub mod Lines
pub mod Meets
pub mod Near
pub mod Numbers
pub mod Reached
pub mod Shapes
pub mod Sides
pub mod Vectors
pub mod Vertices
