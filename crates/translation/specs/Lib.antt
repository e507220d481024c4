pub mod Spelling
pub mod Drafts
pub mod Translation
pub mod Faults
pub mod Judgement
pub mod Acceptance
