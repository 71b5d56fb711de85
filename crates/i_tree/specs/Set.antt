-- Definitions of the ordered sets with handles.
pub mod Insertion
pub mod Iterating
pub mod Pairs
pub mod SetList
pub mod SetTree
