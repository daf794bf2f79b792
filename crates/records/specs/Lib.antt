-- Document 01's records, read from bytes, and its numbered refusals.
pub mod Refusals
pub mod Bytes
pub mod Sites
pub mod Plain
pub mod Reader
pub mod Rules
pub mod First
pub mod Queries
