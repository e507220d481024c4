pub mod Faults
pub mod Bits
pub mod Rungs
pub mod Reading
pub mod Cards
pub mod Encoding
