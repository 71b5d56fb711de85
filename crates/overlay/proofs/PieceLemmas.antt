-- Lemmas on the pieces of a fill: how they are made, and in which order they stand.
pub mod Begins
pub mod Edges
pub mod Ends
pub mod Joined
pub mod Made
