-- Laws that the proofs cite, in reading order.
pub mod PatternOf
pub mod Taking
pub mod Open
pub mod BindTurns
pub mod Frames
pub mod Forming
pub mod BuildTurns
pub mod Variables
pub mod Apart
pub mod Arguments
pub mod Choosing
