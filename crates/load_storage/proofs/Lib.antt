-- The laws that several proofs cite.
pub mod ShortLaws
pub mod WipeLaws
