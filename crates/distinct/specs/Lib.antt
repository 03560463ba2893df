-- What the contracts of `distinct` cite, in reading order.
pub mod Order
pub mod Sorting
