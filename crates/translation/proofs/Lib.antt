pub mod Texts
pub mod Judging
pub mod Keeping
pub mod Accepting
pub mod Verdicts
