-- What the tests of storage decide.
pub mod Ready
pub mod ReadyLaws
