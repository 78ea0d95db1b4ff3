pub mod Cuts
mod Missing
mod OnePlace
pub mod Numbers
mod Made
mod Apart
pub mod Neat
mod Parsings
mod Ends
pub mod Writings
