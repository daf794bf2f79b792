-- What the calls promise: when they refuse, and what they leave in each lent table.
pub mod Given
pub mod Once
pub mod Admission
pub mod Tables
pub mod Promise
pub mod Written
pub mod Inner
pub mod Values
