-- What the contracts of `term_check` cite, in reading order; then laws.
pub mod TermRows
pub mod Walk
pub mod LyingLaws
pub mod WalkLaws
pub mod TermLaws
pub mod ParsedTerms
