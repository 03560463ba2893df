-- What the contracts of `clauses` cite, in reading order.
pub mod Clauses
pub mod Promises
pub mod UsedLaws
mod Examples
