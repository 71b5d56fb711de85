-- Definitions of the fill: which points are inside, and the edges that bound them.
pub mod Begins
pub mod Counts
pub mod Few
pub mod Filled
pub mod Handed
pub mod Pieces
pub mod Rules
pub mod Sweep
pub mod Turned
pub mod Verticals
