pub mod ColumnLemmas
pub mod GainsLemmas
pub mod LocateLemmas
pub mod MeetLemmas
pub mod MeetingLemmas
pub mod PairsLemmas
pub mod PointLemmas
pub mod SweepLineLemmas
