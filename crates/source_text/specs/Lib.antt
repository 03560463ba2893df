-- What the contracts of `source_text` cite, in reading order.
pub mod Bytes
pub mod Utf8
pub mod Characters
pub mod Lines
pub mod TakenLines
pub mod Numerals
pub mod Answers
pub mod Parts
pub mod ByteLaws
pub mod ScanLaws
