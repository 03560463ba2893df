-- What the contracts of `load_storage` cite.
pub mod Storage
pub mod Lent
