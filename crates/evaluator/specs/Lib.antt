-- What the contracts cite, in reading order; that a signature in the listed form is a program; and laws for callers.
pub mod Storage
pub mod Evaluating
pub mod ProgramLaws
pub mod EvaluatingLaws
