-- Definitions of offsets: shapes, sums with them, and the curve around such a sum.
pub mod Chained
pub mod Circle
pub mod CircleFaults
pub mod Cuts
pub mod Faults
pub mod Joins
pub mod Lines
pub mod Minkowski
pub mod Near
pub mod Pieces
pub mod Raw
pub mod Shape
pub mod Sum
