-- The theory of terms and unification, in reading order. Definitions:
pub mod Numbers
pub mod Term
pub mod Bindings
pub mod Unification
-- Laws of each, in the order in which they are needed:
pub mod TermLaws
pub mod BindingLaws
pub mod UnificationLaws
-- Robinson's theorem:
pub mod Robinson
-- What storage and code need:
pub mod Order
pub mod Loops
pub mod Recursion
pub mod Skips
pub mod TermLists
pub mod Renaming
-- Examples by computing:
pub mod Examples
