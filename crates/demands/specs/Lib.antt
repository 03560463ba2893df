-- The goals of a loaded text, and demand 3 from loading on.
pub mod LoadedGoals
pub mod Demand3
