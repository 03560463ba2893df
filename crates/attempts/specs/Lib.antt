-- One attempt with a stored rule, in reading order. Definitions:
pub mod StoredRules
pub mod Promises
-- Laws, in the order in which they are needed:
pub mod RuleLaws
pub mod Extending
pub mod Parts
pub mod Clashes
pub mod Heads
pub mod Bodies
pub mod Outcomes
pub mod Keeping
pub mod Accepting
