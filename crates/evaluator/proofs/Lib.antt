-- Laws that the proofs cite, in reading order.
pub mod TestingLaws
pub mod PartLaws
pub mod LeavingLaws
