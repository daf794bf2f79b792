-- What the levels promise.
pub mod Levelled
pub mod Once
