-- Acyclic bindings in storage, in reading order: what the check promises, the graph that it searches, and that the promise is about something.
pub mod Contract
pub mod Edges
pub mod Listing
