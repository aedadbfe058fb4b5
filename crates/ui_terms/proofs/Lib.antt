pub mod EachLoop
pub mod Count
pub mod Inside
