-- What the contracts of `evaluation_tests_kit` cite.
pub mod Refusals
