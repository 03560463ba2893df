-- What the contracts of `signature` cite, in reading order; what stored signatures denote; and laws for callers.
pub mod Form
pub mod Parts
pub mod Storage
pub mod StoreLaws
