-- Theorems about the definitions of specs.
pub mod GoalLaws
pub mod RefusalLaws
pub mod AnswerLaws
pub mod Demand3
pub mod ContractLaws
pub mod GoalNameLaws
pub mod KeepingLaws
pub mod LeavingLaws
