-- What the contracts of `load` cite, in reading order.
pub mod Load
pub mod Loading
pub mod LoadedLaws
pub mod Clearing
pub mod NumberLaws
