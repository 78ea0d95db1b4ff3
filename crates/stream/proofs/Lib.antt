pub mod Cutting
pub mod Fronts
pub mod LineByLine
pub mod OneTranscript
pub mod Pieces
pub mod Results
pub mod Whole
