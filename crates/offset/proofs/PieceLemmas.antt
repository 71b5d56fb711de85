-- Lemmas on the raw curve: what its parts wind around, and which of these points are of the sum.
pub mod Bands
pub mod Closed
pub mod Convex
pub mod Joints
pub mod Parts
pub mod Rounds
pub mod Shifts
pub mod Sides
pub mod Sums
pub mod Triangles
