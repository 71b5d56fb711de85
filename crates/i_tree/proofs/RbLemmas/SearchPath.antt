-- Lemmas on search paths and descents.
pub mod Asked
pub mod Counts
pub mod Descent
pub mod Entries
pub mod Insertion
pub mod Search
