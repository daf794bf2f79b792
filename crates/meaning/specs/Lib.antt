-- Document 01, one concept a file. Read them in this order, with the document beside them.
pub mod Limits
pub mod Site
pub mod Move
pub mod Expression
pub mod Relation
pub mod Path
pub mod Shown
pub mod Fewest
pub mod Left
pub mod Question
pub mod Marks
