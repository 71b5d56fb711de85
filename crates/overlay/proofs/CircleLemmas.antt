-- Lemmas of the circles along which rings of a polygon share points.
pub mod Classes
pub mod Distinct
pub mod Ends
pub mod Links
pub mod Round
pub mod Searches
pub mod Sides
pub mod Walks
