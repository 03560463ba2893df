-- The laws that several proofs cite.
pub mod SymbolLaws
pub mod RowLaws
pub mod PremiseLaws
pub mod FlatteningLaws
