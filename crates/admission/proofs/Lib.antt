pub mod Good
pub mod Tests
pub mod Entered
pub mod Exactly
pub mod After
pub mod Laws
