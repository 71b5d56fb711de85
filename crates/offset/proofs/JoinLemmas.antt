-- Lemmas on curves with joined corners: what they wind around.
pub mod Bevels
pub mod Joined
pub mod Mitres
pub mod Pairs
pub mod Tips
pub mod Within
