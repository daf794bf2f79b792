-- What the query program prints: the parts of its input, its lines, and what each input is answered.
pub mod Input
pub mod Lines
pub mod Put
pub mod Printed
