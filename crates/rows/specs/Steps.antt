-- The letter of each step.
use Rattle.std.specs.Prelude.{ℕ}
use Rattle.rows.specs.declared.steps.Step.{Step}
use Rattle.rows.specs.declared.steps.Step.TheVariants.{Auction, Trade, Quote, Average, Theory, TheoryUp, Spread, PreviousSpread, Copy, Previous, Ruling}

-- as ASCII codes: A, L, Q, V, T, U, S, P, C, B, D
abbrev pub letter : Step → ℕ
letter Auction = 65
letter Trade = 76
letter Quote = 81
letter Average = 86
letter Theory = 84
letter TheoryUp = 85
letter Spread = 83
letter PreviousSpread = 80
letter Copy = 67
letter Previous = 66
letter Ruling = 68
