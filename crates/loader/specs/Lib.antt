-- What the contracts of `loader` cite, in reading order.
pub mod Known
pub mod Kinds
pub mod Signature
pub mod Legal
pub mod Rows
pub mod TermRows
pub mod Stored
pub mod StoredLaws
pub mod Growth
pub mod Holding
pub mod Entering
pub mod Arrows
pub mod NameRows
pub mod SymbolRows
pub mod SymbolEntry
pub mod DistinctLaws
pub mod ClauseLaws
pub mod LegalGrowth
pub mod LegalLaws
pub mod TokenPlaceLaws
pub mod PlaceLaws
pub mod NonemptyLaws
mod Examples
