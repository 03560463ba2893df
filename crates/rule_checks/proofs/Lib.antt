-- The laws that several proofs cite.
pub mod PartLaws
pub mod PremiseLaws
pub mod TableLaws
pub mod LyingLaws
pub mod ListedLaws
