-- What the contracts of `evaluation_listing_kit` cite.
pub mod Nodes
pub mod Printing
