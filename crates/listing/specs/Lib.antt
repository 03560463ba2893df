-- What the contracts of `listing` cite, and laws of it.
pub mod Listing
pub mod ListingLaws
pub mod SizeLaws
pub mod Recorded
pub mod RecordedLaws
pub mod Examples
