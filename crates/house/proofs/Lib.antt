pub mod Slots
pub mod Admitted
pub mod Laddered
mod Demands
pub mod Looked
mod RowWalk
pub mod Paths
mod StepFinds
pub mod Explained
pub mod Determined
pub mod OnPath
mod OnTick
