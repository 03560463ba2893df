-- The laws that several proofs cite.
pub mod UsedLaws
pub mod ProgressLaws
pub mod StoredLaws
pub mod FilledLaws
pub mod ClauseLaws
pub mod NameLaws
pub mod DefLaws
pub mod DeclarationLaws
pub mod DeclareLaws
