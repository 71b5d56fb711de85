-- Lemmas on a tree in slots: its layout, rotations, free slots, growth.
pub mod Clear
pub mod Detaching
pub mod FreeSlots
pub mod Growth
pub mod ItemWrites
pub mod Layout
pub mod Reads
pub mod RotationSteps
pub mod RotationWrites
pub mod Writes
