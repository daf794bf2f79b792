-- What the text for an input is made of, and that it is one text.
pub mod Putting
pub mod Digits
pub mod Lengths
pub mod Steps
pub mod Splitting
pub mod Saying
pub mod OneText
pub mod Samples
