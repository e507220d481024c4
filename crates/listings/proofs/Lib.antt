pub mod Bytes
pub mod Operands
pub mod LineReading
pub mod Cuts
pub mod Progress
pub mod Words
pub mod Laws
