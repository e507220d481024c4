pub mod Trials
pub mod Tables
