-- Definitions of snap rounding: what a point rounds to, the chains that edges become, and what holds of these.
pub mod Beside
pub mod Chains
pub mod Close
pub mod Columns
pub mod Crossing
pub mod Crossings
pub mod Distinct
pub mod Local
pub mod Meeting
pub mod Moving
pub mod Near
pub mod Offsets
pub mod Rounding
pub mod Sections
pub mod Stops
pub mod Tests
pub mod Windings
