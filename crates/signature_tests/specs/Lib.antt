-- What the contracts of `signature_tests` cite.
pub mod Rows
pub mod Damage
