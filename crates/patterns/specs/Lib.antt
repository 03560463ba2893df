-- What the contracts of `patterns` cite, in reading order.
pub mod Patterns
pub mod Laying
pub mod Promises
pub mod LaidLaws
pub mod UsedLaws
