-- The theory of SLD resolution, in reading order. Definitions:
pub mod Rules
pub mod Fresh
pub mod Search
pub mod Session
pub mod Lloyd
-- Laws, in the order in which they are needed:
pub mod FreshLaws
pub mod Attempts
pub mod Soundness
pub mod Steps
pub mod Limited
pub mod Refutations
pub mod Answers
pub mod Completeness
pub mod Shifting
pub mod Bounds
pub mod Verdicts
pub mod Repeats
-- Demand 3:
pub mod Demand3
pub mod Naming
pub mod NamingLaws
-- What code needs:
pub mod Machine
pub mod Preorder
pub mod Sizes
pub mod WordLaws
-- Checks by computing:
pub mod Cases
pub mod Marked
pub mod Recorded
