pub mod Kind
pub mod Reader
pub mod View
pub mod Cursor
pub mod List
pub mod Names
pub mod Exact
