-- The laws that several proofs cite.
pub mod TokenLaws
pub mod Readers
pub mod TermLaws
pub mod ListLaws
