-- What the contracts of `parser` cite, in reading order.
pub mod Source
pub mod Declarations
pub mod Rows
pub mod Parser
pub mod Depth
pub mod Promises
