-- Stored terms, in reading order.
pub mod Cells
pub mod Arguments
pub mod Rows
pub mod ArgumentLaws
pub mod NodeLaws
pub mod Copies
pub mod CopyLaws
pub mod Form
pub mod FormLaws
pub mod PartLaws
pub mod FormKept
pub mod Equality
pub mod EqualityLaws
pub mod Links
