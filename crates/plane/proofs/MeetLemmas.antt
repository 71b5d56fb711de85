-- Lemmas on edges that meet.
pub mod Along
pub mod Boxes
pub mod Identities
pub mod Kinds
pub mod Shares
pub mod Tests
