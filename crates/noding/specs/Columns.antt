-- Definitions of what sweeps by columns find of edges: what is asked about upright ones and ends, and which points they pass.
pub mod Ends
pub mod Passing
pub mod Rounds
pub mod Uprights
