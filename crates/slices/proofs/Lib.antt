-- Laws.
pub mod Filling
