-- Lemmas of how rings of polygons touch: they do not cross.
pub mod AllTouch
pub mod AtPoint
pub mod Beside
pub mod OnOutline
pub mod Outlined
pub mod OwnNoded
pub mod PassBy
pub mod Picked
pub mod RoundRing
pub mod Shared
pub mod Stays
pub mod Straight
