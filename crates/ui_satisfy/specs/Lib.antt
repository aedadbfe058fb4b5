pub mod Comparable
pub mod Search
pub mod Marks
pub mod Satisfies
pub mod Laws
