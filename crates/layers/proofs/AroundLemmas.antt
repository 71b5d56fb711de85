-- Lemmas on which points lie in which shapes.
pub mod AllPoints
pub mod Apart
pub mod Chains
pub mod Doubling
pub mod Groups
pub mod Halves
pub mod Lists
pub mod Made
pub mod Narrow
pub mod Narrowing
pub mod Placing
pub mod Rounds
pub mod Runs
pub mod Sides
pub mod Turns
