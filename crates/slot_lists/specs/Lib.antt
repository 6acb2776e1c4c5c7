pub mod SlotSets
pub mod Listings
pub mod Computed
