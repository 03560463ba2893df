-- The laws that several proofs cite.
pub mod SkipLaws
pub mod ClauseLaws
