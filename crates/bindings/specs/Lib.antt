-- Bindings over stored terms, in reading order. Definitions:
pub mod Tables
pub mod Stored
pub mod Promises
-- Laws, in the order in which they are needed:
pub mod Orders
pub mod TableLaws
pub mod Entries
pub mod Holding
pub mod Walking
pub mod Occurrence
pub mod Search
pub mod Checking
-- What callers need of it:
pub mod Growth
