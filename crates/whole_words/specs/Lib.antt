-- Tokens are taken whole, in reading order. Definitions:
pub mod Words
-- Laws, of what stands at the start of a list of bytes and of lines:
pub mod WordLaws
pub mod LineLaws

-- The theorem, `tokens_whole`:
