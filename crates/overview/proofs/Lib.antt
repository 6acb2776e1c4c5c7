pub mod Tests
pub mod Rounds
pub mod Laws
