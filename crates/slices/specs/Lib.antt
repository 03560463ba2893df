-- What the contracts of `slices` and of the crates above it cite.
pub mod Rows
pub mod Parts
