-- Definitions of the sweep by columns: moments, the status, what is asked.
pub mod Asked
pub mod Descent
pub mod Moments
pub mod Status
pub mod Steps
pub mod Sweep
