-- Trees in storage, and their laws.
pub mod Trees
