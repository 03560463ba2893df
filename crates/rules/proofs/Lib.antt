-- The laws that several proofs cite.
pub mod RowLaws
pub mod JudgmentLaws
pub mod ColumnLaws
pub mod KeepLaws
pub mod ExactLaws
pub mod RuleLaws
