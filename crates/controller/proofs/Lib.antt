pub mod Cards
pub mod Scans
pub mod Texts
pub mod Steps
pub mod Lending
pub mod Histories
pub mod Laws
