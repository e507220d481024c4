pub mod Words
pub mod Deepest
pub mod Texts
