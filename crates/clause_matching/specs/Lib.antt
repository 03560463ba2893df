-- What the contracts of matching, building and choice cite, in reading order.
pub mod Stored
pub mod Matching
pub mod Building
pub mod Choice
