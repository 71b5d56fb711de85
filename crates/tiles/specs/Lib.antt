-- Definitions of tiles: windows, rings that are cropped to them, and overlays within them.
pub mod Crop
pub mod Join
pub mod Part
pub mod Pushing
pub mod Seam
pub mod Tile
pub mod Whole
pub mod Window
