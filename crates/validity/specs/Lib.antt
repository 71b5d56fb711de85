-- Definitions of validity: which polygons are valid, and what is wrong with those that aren't.
pub mod Contacts
pub mod Given
pub mod Meeting
pub mod Validity
