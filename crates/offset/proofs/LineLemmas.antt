-- Lemmas on lines that grow: what the shape at a point winds around, and the parallelogram along an edge.
pub mod Along
pub mod Around
pub mod Covers
pub mod Lines
pub mod Paths
pub mod Round
