-- What the contracts of `flattening` cite, in reading order.
pub mod Flattening
pub mod Promises
