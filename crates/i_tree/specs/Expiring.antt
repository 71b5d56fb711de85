-- Definitions that the collections of keys that expire and the statuses share.
pub mod Descent
pub mod Insertion
pub mod List
pub mod Live
pub mod SearchPath
pub mod Tree
