-- Lemmas on keys that expire, and on the descents their tree.
pub mod Callers
pub mod Insertion
pub mod ListInsertion
pub mod Lookup
pub mod Search
