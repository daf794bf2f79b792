-- What the calls for C promise: the values of an outcome laid out in a struct, and of which outcome.
pub mod Layout
pub mod ForC
