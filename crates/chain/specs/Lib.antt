pub mod Places
pub mod Outcomes
pub mod Walk
pub mod Chains
pub mod Stored
pub mod Computed
pub mod Laws
