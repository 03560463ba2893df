-- The laws that several proofs cite.
pub mod PartLaws
pub mod TacticLaws
pub mod DeclarationLaws
pub mod ClauseLaws
pub mod BinderLaws
pub mod TitleLaws
pub mod TheoremLaws
pub mod StorageLaws
