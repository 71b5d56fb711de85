pub mod Boxes
pub mod Columns
pub mod Crosses
pub mod Edges
pub mod Kinds
pub mod Meetings
