pub mod Tests
pub mod Record
pub mod Verdict
pub mod Prints
