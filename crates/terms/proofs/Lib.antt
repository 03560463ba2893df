-- Theorems about the definitions of specs.
pub mod UnificationLaws
pub mod Robinson
pub mod Loops
pub mod Recursion
pub mod Skips
pub mod Renaming
pub mod Examples
