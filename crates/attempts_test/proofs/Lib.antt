pub mod Rule
pub mod Laws
