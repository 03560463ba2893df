-- What the contracts of `rules` cite, in reading order.
pub mod Rules
pub mod KnownLaws
pub mod LayingLaws
pub mod CountLaws
pub mod PatternLaws
pub mod StoredRows
pub mod StoredLaws
pub mod Layout
pub mod LayoutLaws
pub mod Promises
pub mod UsedLaws
mod Examples
