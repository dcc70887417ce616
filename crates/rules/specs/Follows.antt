-- What follows from the law, for the theorems: no call, read, program or reading reaches a definition in here.
pub mod Wires
pub mod Asked
pub mod Descriptors
pub mod ReadBack
pub mod Sound
pub mod Sequences
