-- What the contracts of `capi` cite.
pub mod Words
pub mod Unification
pub mod Declarations
pub mod Signatures
pub mod Checks
pub mod Evaluation
pub mod Sessions
