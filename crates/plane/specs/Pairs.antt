-- Definitions of boxes, of pairs of items whose boxes meet, and of the sweep that finds them.
pub mod Bounds
pub mod Live
pub mod OfTwo
pub mod Pairs
pub mod Parts
pub mod Points
pub mod Runs
pub mod Strips
pub mod Sweep
