-- Lemmas on pairs whose keys expire, for keys and for statuses.
pub mod Descents
pub mod Insertion
pub mod List
pub mod Packing
pub mod Search
pub mod SearchPath
pub mod Times
