pub mod Root
pub mod Expiring
pub mod Key
pub mod Status
pub mod Rb
pub mod Set
pub mod Seg
pub mod Laws
