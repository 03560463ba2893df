-- Laws, in reading order.
pub mod Tables
pub mod Depth
pub mod EdgeLaws
pub mod Ranks
pub mod Turns
pub mod Clearing
