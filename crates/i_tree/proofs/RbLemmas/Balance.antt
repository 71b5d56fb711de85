-- Lemmas on red-black trees: ranks, and the rebalancing after an insertion.
pub mod Frames
pub mod Insertion
pub mod Joining
pub mod Ranks
pub mod UnderRed
