-- Lemmas on the events of a sweep: how their list grows and is sorted, what of them is done, and which answers stand.
pub mod Answers
pub mod Begins
pub mod Buckets
pub mod Dealing
pub mod Digits
pub mod Done
pub mod Filters
pub mod Listing
pub mod Passes
pub mod Places
pub mod Sorting
