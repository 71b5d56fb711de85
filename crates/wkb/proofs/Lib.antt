pub mod CornersLemmas
pub mod Loops
pub mod Lying
pub mod Pieces
pub mod Places
pub mod ReadAgain
pub mod RingLemmas
pub mod Srids
