-- What the byte table's functions promise.
pub mod Words
pub mod Mark
pub mod Serve
pub mod Seek
pub mod Chase
pub mod Task
pub mod Narrow
pub mod Count
