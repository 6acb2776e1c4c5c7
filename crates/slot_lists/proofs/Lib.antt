pub mod SlotSets
pub mod Writes
pub mod Listings
