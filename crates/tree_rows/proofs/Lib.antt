-- Theorems about the definitions of specs.
pub mod TreeLaws
