pub mod Masks
pub mod Rectangles
pub mod Roads
