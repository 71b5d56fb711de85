pub mod AroundLemmas
pub mod BoxLemmas
pub mod BoxedLemmas
pub mod EachLemmas
pub mod GatheredLemmas
pub mod LineLemmas
pub mod ListLemmas
pub mod ParentLemmas
