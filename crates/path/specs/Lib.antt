-- What the path's functions promise.
pub mod Pick
pub mod Flags
pub mod Offers
pub mod Walking
