pub mod Order
pub mod Rule
