-- The proof of Hobby's theorem: pieces of chains meet only at common ends, or are the same.
pub mod Ends
pub mod Halves
pub mod Leads
pub mod Lines
pub mod Moved
pub mod Roots
pub mod Touches
pub mod Turns
pub mod Uncrossed
