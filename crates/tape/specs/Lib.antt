pub mod LawfulTape
