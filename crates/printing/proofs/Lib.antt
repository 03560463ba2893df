-- Laws of printing.
pub mod WalkLaws
pub mod SymbolLaws
pub mod LineLaws
pub mod GoalLaws
pub mod Turns
