-- Lemmas on edges that are joined before they are broken.
pub mod Refined
pub mod Parts
pub mod Points
pub mod Runs
pub mod Chains
pub mod Weighed
pub mod Standing
