-- Lemmas on raw curves that are cut at some corners: they wind around the same points.
pub mod Curves
pub mod Fewer
pub mod Moved
pub mod Steps
pub mod Sums
pub mod Triangles
pub mod Walks
