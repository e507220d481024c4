pub mod Refusals
pub mod Promise
pub mod Runs
pub mod Standing
