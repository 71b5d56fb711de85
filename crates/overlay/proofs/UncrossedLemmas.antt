-- Lemmas of edges of which no two cross at a point with fractions.
pub mod Axes
pub mod Covered
pub mod Crossing
pub mod Finer
pub mod Split
