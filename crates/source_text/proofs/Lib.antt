-- The laws that several proofs cite.
pub mod Table
pub mod Scans
pub mod Encodings
pub mod Numbers
pub mod AnswerLaws
pub mod StdUtf8
