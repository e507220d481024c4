pub mod Surveys
pub mod Rules
pub mod Drafts
pub mod Rungs
