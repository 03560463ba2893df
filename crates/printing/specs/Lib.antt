-- What a listing prints (document 01, "One text in full"), and what the contracts of `printing` cite.
pub mod Terms
pub mod Pieces
pub mod PieceLaws
pub mod Known
pub mod Stored
pub mod OpenNodes
pub mod Walking
pub mod Written
pub mod Listing
pub mod Lines
pub mod SizeLaws
pub mod Examples
