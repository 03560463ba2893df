-- The laws that several proofs cite.
pub mod Items
pub mod Readings
pub mod Domains
pub mod AnswerLaws
