-- What the contracts cite, in reading order.
pub mod Nodes
pub mod Numerals
pub mod Applying
pub mod Terms
