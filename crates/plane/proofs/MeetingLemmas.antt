-- Lemmas on edges that meet, as they are found by columns.
pub mod Columns
pub mod ColumnPairs
pub mod CommonEnds
pub mod Crossing
