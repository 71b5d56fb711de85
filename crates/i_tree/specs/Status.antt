-- Definitions of the statuses of a sweep line.
pub mod Insertion
pub mod StatusList
pub mod StatusTree
