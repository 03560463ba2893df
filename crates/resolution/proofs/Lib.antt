-- Theorems about the definitions of specs.
pub mod FreshLaws
pub mod Attempts
pub mod Soundness
pub mod Steps
pub mod Limited
pub mod Answers
pub mod Failure
pub mod Completeness
pub mod Shifting
pub mod Verdicts
pub mod Repeats
pub mod Demand3
pub mod Machine
pub mod SizeLaws
pub mod Marked
pub mod Recorded
