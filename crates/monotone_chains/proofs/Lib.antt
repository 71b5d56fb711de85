pub mod PartLemmas
pub mod StretchLemmas
