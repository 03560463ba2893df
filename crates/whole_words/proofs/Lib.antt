-- Theorems about the definitions of specs.
pub mod TokensWhole
