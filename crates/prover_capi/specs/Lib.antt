-- What `horn_prove_cleared` answers.
pub mod Cleared
