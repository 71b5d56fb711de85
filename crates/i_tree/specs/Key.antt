-- Definitions of the collections of keys that expire.
pub mod KeyExpList
pub mod KeyExpTree
