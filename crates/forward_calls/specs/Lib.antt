-- What the contracts cite, in reading order.
pub mod Ground
pub mod Forward
