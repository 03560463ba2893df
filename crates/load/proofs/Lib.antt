-- The laws that several proofs cite.
pub mod WalkLaws
pub mod ListedLaws
pub mod LentLaws
pub mod RowsLaws
pub mod LoadLaws
pub mod ToldLaws
