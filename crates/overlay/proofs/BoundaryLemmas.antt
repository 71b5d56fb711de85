-- Lemmas on the boundary of a result.
pub mod Apart
pub mod Broken
pub mod Pieces
pub mod Bounding
pub mod Sloped
pub mod Corners
pub mod TwoEnds
pub mod Made
