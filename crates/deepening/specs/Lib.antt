-- The depth bounds, in reading order. Definitions: cleared lists, a proof's rows, and the contracts.
pub mod Clearing
pub mod Trees
pub mod Bounds
pub mod Groups
-- Laws, in the order in which they are needed:
pub mod ClearingLaws
pub mod TreeLaws
pub mod Bounding
pub mod Deepening
