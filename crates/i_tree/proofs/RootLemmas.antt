-- Lemmas on lists, rising keys, orders, halving and counts.
pub mod Along
pub mod BinarySearch
pub mod Counts
pub mod Cuts
pub mod Joined
pub mod Lists
pub mod Members
pub mod Monotone
pub mod Numbers
pub mod Orders
pub mod Parted
pub mod Results
pub mod RisingKeys
pub mod Withouts
