-- Polygons that go round others.
pub mod Around
pub mod Depths
pub mod Outers
