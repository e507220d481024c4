pub mod Operands
pub mod LineReading
pub mod Faults
pub mod Reading
pub mod Progress
pub mod Answers
