mod Adding
mod Neat
mod Apart
