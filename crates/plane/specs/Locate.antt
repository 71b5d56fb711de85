-- Definitions of what lies below a point, and of the sweep that answers it.
pub mod Answers
pub mod Events
pub mod Payloads
pub mod Serving
