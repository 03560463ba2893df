-- The laws that several proofs cite.
pub mod Laws
pub mod UsedLaws
pub mod NameLaws
pub mod FormLaws
pub mod RuleLaws
pub mod ClauseLaws
