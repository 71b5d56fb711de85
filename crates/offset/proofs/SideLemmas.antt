-- Lemmas of the sides of edges: what closed edges wind around on each.
pub mod Aside
pub mod Close
pub mod Corners
pub mod Crossing
pub mod Inner
pub mod Jumps
pub mod Meeting
pub mod Rays
pub mod Right
pub mod Turns
pub mod Ways
