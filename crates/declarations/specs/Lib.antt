-- What the contracts of `declarations` cite, in reading order.
pub mod Held
pub mod Steps
pub mod Lent
