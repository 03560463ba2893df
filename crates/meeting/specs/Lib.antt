-- Meeting order in storage, in reading order: the table of places, what the walk promises, and laws for callers.
pub mod Places
pub mod Contract
pub mod PlaceLaws
pub mod WalkLaws
pub mod BackLaws
