-- What the contracts of `session_check` cite.
pub mod Parts
pub mod ReadyLaws
