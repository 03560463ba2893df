pub mod Symbols
pub mod Variables
pub mod Places
pub mod Terms
pub mod Numerals
