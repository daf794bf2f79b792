-- Laws that belong to no one function: how records are opened, and how the smallest step is found.
pub mod Opening
pub mod Climbing
pub mod Leading
pub mod Sweeping
pub mod Carrying
pub mod Stepping
pub mod Choosing
pub mod Remaining
pub mod Entering
pub mod Candidates
pub mod Picking
