pub mod RootLemmas
pub mod ExpiringLemmas
pub mod KeyLemmas
pub mod RbLemmas
pub mod SetLemmas
pub mod StatusLemmas
pub mod SegLemmas
