-- What the program's tests find.
pub mod Told
