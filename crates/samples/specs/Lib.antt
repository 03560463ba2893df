-- What the contracts of `samples` cite.
pub mod Building
pub mod Scratch
pub mod Chains
pub mod Same
