-- Lemmas on a removal and its rebalancing.
pub mod BothBlack
pub mod First
pub mod Frames
pub mod Items
pub mod OuterRed
pub mod Progress
pub mod Rebalancing
pub mod RedSibling
pub mod Removed
pub mod Shapes
pub mod ShortSide
pub mod Sides
pub mod Step
