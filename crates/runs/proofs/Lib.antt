pub mod PathFigures
pub mod RaisedFigures
pub mod AddedFigures
pub mod Along
pub mod Inside
pub mod RaisedAnswers
pub mod MoreAnswers
pub mod OneCall
pub mod ToldRuns
mod StoredEntries
pub mod Compared
mod Times
