pub mod Refusals
pub mod Refused
