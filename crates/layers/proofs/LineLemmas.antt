pub mod Broken
pub mod Callers
pub mod Lists
pub mod Marks
pub mod Paths
pub mod Runs
