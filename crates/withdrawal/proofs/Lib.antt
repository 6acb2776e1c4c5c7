pub mod Frame
pub mod Asked
pub mod Fallen
pub mod Demand
pub mod Laws
