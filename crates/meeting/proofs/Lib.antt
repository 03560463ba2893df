-- Laws, in reading order.
pub mod Pending
pub mod Turns
pub mod Back
