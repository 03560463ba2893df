-- What the program's checks find.
pub mod Form
