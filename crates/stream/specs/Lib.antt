pub mod Inputs
pub mod Transcripts
pub mod Held
pub mod Sessions
pub mod Served
pub mod LineByLine
