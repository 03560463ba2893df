-- Theorems about the definitions of specs.
pub mod EvaluationLaws
pub mod LoadedLaws
pub mod CallLaws
pub mod HeightLaws
pub mod CountLaws
pub mod NumberLaws
pub mod AgreementLaws
pub mod Examples
pub mod RefusalCases
