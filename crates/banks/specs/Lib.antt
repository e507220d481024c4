pub mod Packing
pub mod Refusals
pub mod Marks
pub mod Patches
pub mod Layers
pub mod Kept
pub mod Short
