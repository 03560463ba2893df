-- Laws that the proofs cite, in reading order.
pub mod Pending
pub mod Tables
pub mod Heads
pub mod Forwarding
