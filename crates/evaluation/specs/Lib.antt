-- The theory of evaluation, in reading order. Definitions:
pub mod Matching
pub mod Calls
pub mod Expressions
-- Laws, in the order in which they are needed:
pub mod MatchingLaws
pub mod Derivations
pub mod EvaluationLaws
pub mod CallLaws
pub mod HeightLaws
pub mod CountLaws
pub mod NumberLaws
pub mod DepthLaws
pub mod AgreementLaws
-- Checks by computing:
pub mod TextCases
