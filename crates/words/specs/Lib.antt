-- What the contracts of `words` cite, in reading order.
pub mod Items
pub mod Names
pub mod Signs
pub mod Tokens
pub mod Answers
pub mod Lexer
pub mod Rows
pub mod Examples
