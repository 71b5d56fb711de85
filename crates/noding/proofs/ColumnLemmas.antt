-- Lemmas of what sweeps by columns find of edges: which cross or reach each other, which points they pass, which are hot, and which
-- edges points move in rounds.
pub mod Ends
pub mod Flags
pub mod Hot
pub mod Near
pub mod Nodes
pub mod Pairs
pub mod Passing
pub mod PassingPairs
pub mod PassingShares
pub mod Rounds
pub mod Spreads
