-- Lemmas on what is below a point, and on the sweep that answers it.
pub mod Answering
pub mod Beginning
pub mod Begun
pub mod Ending
pub mod Events
pub mod Payloads
pub mod Room
pub mod Serving
pub mod Swept
