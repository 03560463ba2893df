-- The prover, in reading order. Definitions: what is cleared, a goal before its search, the search, and the whole.
pub mod Queries
pub mod Clearing
pub mod Preparing
pub mod Searching
pub mod Proving
-- Laws, in the order in which they are needed:
pub mod PreparingLaws
pub mod SearchingLaws
pub mod ProvingLaws
pub mod UsedLaws
pub mod TestingLaws
