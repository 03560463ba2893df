-- The laws that several proofs cite.
pub mod Lengths
pub mod NamesOf
