-- Lemmas on the ordered sets with handles.
pub mod Handles
pub mod Insertion
pub mod Live
pub mod LiveHandles
pub mod Ordered
pub mod Places
pub mod Positions
pub mod Search
pub mod Walking
