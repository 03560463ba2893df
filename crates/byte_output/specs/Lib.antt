-- What the contracts of `byte_output` cite, and laws of it.
pub mod Output
pub mod OutputLaws
pub mod NumeralLaws
