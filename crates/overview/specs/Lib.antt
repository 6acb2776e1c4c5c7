pub mod Order
pub mod Computed
pub mod Laws
