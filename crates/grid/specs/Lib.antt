pub mod Area
pub mod Doubles
pub mod Fit
pub mod Grid
pub mod Parts
pub mod Places
pub mod Rounding
