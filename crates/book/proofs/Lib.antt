pub mod Folds
pub mod StoredTakings
pub mod Taking
pub mod RecordedEvidence
mod TakenEvidence
