pub mod Writing
pub mod Checking
pub mod Linking
pub mod Settling
