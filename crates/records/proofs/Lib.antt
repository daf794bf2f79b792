-- What reading a site and a rule gives, and that it gives one answer.
pub mod Tests
pub mod Numbers
pub mod TwoBytes
pub mod SiteRecord
pub mod Plain
pub mod Sites
pub mod Parts
pub mod Readers
pub mod Begun
pub mod ReaderParts
pub mod Subjects
pub mod Reading
pub mod Progress
pub mod Checked
pub mod Starts
pub mod First
pub mod Once
