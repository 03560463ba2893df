-- The laws that several proofs cite.
pub mod OrderLaws
pub mod TallyLaws
pub mod MergeLaws
pub mod SortLaws
pub mod PermutationLaws
pub mod NeighbourLaws
