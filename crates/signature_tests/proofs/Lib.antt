-- What the proofs of `signature_tests` cite.
pub mod Laws
