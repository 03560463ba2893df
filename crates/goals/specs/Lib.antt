-- Goals, in reading order. A goal compiled:
pub mod Compiling
pub mod CompilingLaws
-- A goal stored in a session:
pub mod Storing
pub mod StoringLaws
-- What the callers cite:
pub mod GoalLaws
pub mod SessionLaws
