-- Laws that belong to no one function: what is reached by lowering along offers, and with the threads kept; what a step is known for.
pub mod Hints
pub mod Levelling
pub mod Steps
