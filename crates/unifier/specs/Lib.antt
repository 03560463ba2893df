-- Unification over stored terms, in reading order. Definitions:
pub mod Promises
pub mod Packing
pub mod Lending
-- Laws, in the order in which they are needed:
pub mod Linking
pub mod Deciding
pub mod Pairs
pub mod Steps
pub mod Turns
pub mod Bounds
pub mod Equating
pub mod Ending
-- What callers need of `bindings`:
pub mod Checking
