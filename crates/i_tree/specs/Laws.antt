-- Proofs that laws of implementations cite. The toolchain takes what a law cites from specs/ alone, so these, with their tactics, stand here
-- and not among the lemmas.
pub mod Counters
pub mod LayoutNumbers
pub mod ListPairs
pub mod TreePairs
