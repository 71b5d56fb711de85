-- Definitions that all containers share: lists of keys and values, what a query answers, and counts.
pub mod Along
pub mod Answer
pub mod BinarySearch
pub mod Causes
pub mod Change
pub mod Descent
pub mod Ends
pub mod Handles
pub mod Late
pub mod Levels
pub mod Live
pub mod Pairs
pub mod Steps
