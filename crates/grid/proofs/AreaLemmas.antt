pub mod Along
pub mod Numbers
pub mod Signs
