pub mod Words
pub mod WordLaws
pub mod Texts
pub mod Lines
pub mod Stores
pub mod Reports
pub mod Depth
