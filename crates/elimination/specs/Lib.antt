pub mod Trees
pub mod Answer
pub mod Slots
pub mod Groups
pub mod Reduction
