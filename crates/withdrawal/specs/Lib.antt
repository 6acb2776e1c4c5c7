pub mod Order
pub mod Computed
pub mod Demand
pub mod Laws
