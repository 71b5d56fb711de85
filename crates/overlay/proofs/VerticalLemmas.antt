-- Lemmas on the vertical edges that close a bound region.
pub mod Between
pub mod Closing
pub mod Columns
pub mod Crossed
pub mod Ends
pub mod Flows
pub mod Linked
pub mod Order
pub mod Region
pub mod Sloped
pub mod Upright
