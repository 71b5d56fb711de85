-- Definitions of contours: the rings of closed edges, and which edge a ring goes on along.
pub mod Ends
pub mod Fans
pub mod Order
pub mod Outlines
pub mod Rings
pub mod Turns
pub mod Walks
