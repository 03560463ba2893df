-- Laws that the proofs cite, in reading order.
pub mod Forming
pub mod Listing
pub mod Lending
pub mod Premising
pub mod Following
pub mod Calling
