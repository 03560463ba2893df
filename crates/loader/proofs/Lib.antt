-- The laws that several proofs cite.
pub mod EntryLaws
pub mod JudgmentLaws
pub mod ArrowLaws
pub mod SymbolLaws
