pub mod Order
pub mod Computed
pub mod Admitted
pub mod Filled
pub mod Laws
