-- What the contracts of `signature_listing` cite.
pub mod Nodes
