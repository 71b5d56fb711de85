-- Lemmas on the sweep of a fill: what stands in the status, what is below a piece that begins, and how the edges kept begin.
pub mod Begun
pub mod Below
pub mod Carried
pub mod Few
pub mod First
pub mod Handed
pub mod Looked
pub mod Parts
pub mod Region
pub mod Swept
pub mod Upto
