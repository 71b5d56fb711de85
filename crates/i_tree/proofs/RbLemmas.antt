-- Lemmas on the red-black core, by subject.
pub mod Balance
pub mod Removal
pub mod SearchPath
pub mod Shape
pub mod Slots
