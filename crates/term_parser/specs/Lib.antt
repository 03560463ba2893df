-- What the contracts of `term_parser` cite, in reading order.
pub mod Source
pub mod Parsing
pub mod Steps
pub mod Grammar
pub mod Lists
pub mod Firmness
pub mod Rows
pub mod Standing
pub mod ReaderLaws
pub mod ListLaws
pub mod Depth
pub mod Promises
