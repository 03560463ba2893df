-- The search at one depth bound, in reading order. Definitions: the storage, the machine and its contracts.
pub mod Storage
pub mod Allowed
pub mod State
pub mod Moves
pub mod Promises
pub mod Groups
pub mod Choosing
-- Laws, in the order in which they are needed:
pub mod Parts
pub mod Carry
pub mod Falls
pub mod Places
pub mod Entries
pub mod Attempts
pub mod Tries
pub mod Returns
pub mod Ways
pub mod ChoosingLaws
pub mod Signatures
