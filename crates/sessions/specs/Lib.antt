-- Sessions, in reading order. Definitions:
pub mod Storage
pub mod Goals
pub mod Answers
pub mod Promises
-- Laws, in the order in which they are needed:
pub mod GoalLaws
pub mod GoalRowLaws
pub mod StoreLaws
pub mod OpeningLaws
-- Demand 3:
pub mod Demand3
-- What the contract fixes, and what code needs to meet it:
pub mod ContractLaws
pub mod Leaving
