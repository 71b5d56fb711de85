-- Definitions of the trees of segments.
pub mod Buckets
pub mod Changes
pub mod Copies
pub mod Iterating
pub mod Members
pub mod Nodes
pub mod Ranges
pub mod Segments
pub mod Walk
