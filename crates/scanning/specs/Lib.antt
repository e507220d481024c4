pub mod Machine
pub mod ByPaths
pub mod Listings
pub mod Theorems
pub mod Working
pub mod RuledOut
pub mod Cards
pub mod Refusals
