-- Lemmas on statuses of a sweep line.
pub mod ListInsertion
pub mod TreeInsertion
