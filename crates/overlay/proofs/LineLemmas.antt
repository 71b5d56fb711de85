-- Lemmas of edges along one line, cut where any of them begins or ends.
pub mod Parts
pub mod Places
pub mod Runs
pub mod Stretches
pub mod Sums
pub mod Upto
