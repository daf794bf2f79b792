-- That the promises of the calls for C determine their results.
pub mod OneStruct
