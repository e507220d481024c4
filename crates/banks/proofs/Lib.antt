pub mod Slots
pub mod Pairs
pub mod Marking
pub mod Swapping
pub mod Patching
