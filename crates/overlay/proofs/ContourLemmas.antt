-- Lemmas of contours: edges in order, turns, counts of starts and ends, and walks.
pub mod Bends
pub mod Callers
pub mod Clockwise
pub mod Counts
pub mod Ends
pub mod Fans
pub mod Order
pub mod Outlines
pub mod RealEdges
pub mod Rings
pub mod Straight
pub mod Three
pub mod Turns
pub mod Walks
pub mod Ways
