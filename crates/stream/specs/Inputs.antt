-- Inputs and their lines.
use Rattle.std.specs.Prelude.{◌≡◌, ℕ, ◌≢◌, cond, List, [], ◌∷◌, ◌++◌, ◌==◌, All, flat_map}
use Rattle.lines.specs.Fields.{onto}

-- the lines of an input: a newline ends a line and belongs to none; what follows the last newline, if anything, is a line too
abbrev pub lines_of : List ℕ → List (List ℕ)
lines_of [] = []
lines_of (b ∷ bs) = cond (b == 10) ([] ∷ lines_of bs) (onto b (lines_of bs))

-- ---- an input whose last line need not have ended

abbrev pub Unbroken : List ℕ → Type 0
Unbroken line = All (λ b. b ≢ 10) line

-- each line with its newline
abbrev pub with_newlines : List (List ℕ) → List ℕ
with_newlines lines = flat_map (λ line. line ++ (10 ∷ [])) lines

-- an input is these lines, each with its newline, and then the rest of a line
pub record Splits (input : List ℕ) (lines : List (List ℕ)) (rest : List ℕ) : Type 0 where
  pub whole : input ≡ with_newlines lines ++ rest
  pub unbroken : All Unbroken lines
  pub open_end : Unbroken rest

-- lines that ended in an input, the first of it
pub record FirstLines (input : List ℕ) (lines : List (List ℕ)) : Type 0 where
  pub rest : List ℕ
  pub whole : input ≡ with_newlines lines ++ rest
  pub unbroken : All Unbroken lines

-- the rest is a line of its own, unless there is none
abbrev pub last_line : List ℕ → List (List ℕ)
last_line [] = []
last_line (b ∷ bs) = (b ∷ bs) ∷ []

-- ---- laws of lines

-- an input has the lines into which its newlines split it, and the rest
abbrev pub SplitLines : Type 0
SplitLines = (input : List ℕ) (lines : List (List ℕ)) (rest : List ℕ) → Splits input lines rest → lines_of input ≡ lines ++ last_line rest

-- and every input is split so
abbrev pub AllSplit : Type 0
AllSplit = (input : List ℕ) → (lines : List (List ℕ)) × (rest : List ℕ) × Splits input lines rest
