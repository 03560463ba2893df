-- Names are taken and stored whole, in reading order. What declarations name, and what it means that their words and variables are whole:
pub mod Titles
pub mod Uses
pub mod Variables
-- Laws, of lists, of what is parsed, of variables and of what is loaded:
pub mod ListLaws
pub mod UsesWhole
pub mod VariablesWhole
pub mod EntryLaws
-- The theorem for a signature, `names_whole`:
pub mod NamesWhole
-- Laws of stored rows, and the theorem for what `load` stores, `names_stored_whole`:
pub mod RowLaws
pub mod PlacedLaws
pub mod NamesStored
