pub mod Layered
pub mod Arranged
pub mod Piles
