-- Laws that the proofs cite, in reading order.
pub mod Forming
pub mod Building
pub mod Towers
pub mod Misuses
pub mod Numbering
pub mod Applications
pub mod Reading
pub mod Walking
