-- Definitions of graphs without circles.
pub mod Circles
pub mod Trees
