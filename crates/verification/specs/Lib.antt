pub mod Order
pub mod Payloads
pub mod Accepted
pub mod Computed
pub mod Demand
