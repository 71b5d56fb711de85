pub mod Callers
pub mod ChainLemmas
pub mod ColumnLemmas
pub mod SnapLemmas
