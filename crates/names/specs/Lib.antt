-- What the contracts of `names` cite, in reading order.
pub mod Names
pub mod NamePlaces
pub mod Symbols
pub mod RowNames
pub mod Named
pub mod Standing
pub mod SearchLaws
pub mod UsedLaws
