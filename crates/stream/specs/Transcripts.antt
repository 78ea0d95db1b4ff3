-- What is printed of the lines of an input.
use Rattle.std.specs.Prelude.{◌≡◌, ℕ, List, [], ◌∷◌, ◌++◌, fold, Result}
use Rattle.std.specs.List.{AllZip}
use Rattle.lines.specs.Spelled.{Parsed}
use Rattle.lines.specs.declared.line_calls.LineCall.{LineCall}
use Rattle.lines.specs.declared.faults.NotRead.{NotRead}
use Rattle.answers.specs.Texts.{answer_text}
use Rattle.desk.specs.Desks.{DeskState, line_after, line_answer}

-- an answer and a newline for each line as it was read, from what stands
abbrev pub transcript : DeskState → List (Result LineCall NotRead) → List ℕ
transcript s [] = []
transcript s (r ∷ rs) = answer_text (line_answer s r) ++ (10 ∷ transcript (line_after s r) rs)

-- what then stands
abbrev pub after_lines : DeskState → List (Result LineCall NotRead) → DeskState
after_lines s rs = fold line_after s rs

-- the lines are read one by one, each in the one way there is, and this is printed
pub record IsTranscript (s : DeskState) (lines : List (List ℕ)) (out : List ℕ) (t : DeskState) : Type 0 where
  pub readings : List (Result LineCall NotRead)
  pub read : AllZip Parsed lines readings
  pub printed : out ≡ transcript s readings
  pub after : t ≡ after_lines s readings

-- what is printed rests on the lines alone: no lines have two transcripts, or lead to two ends
pub record OneTranscript : Type 0 where
  pub once : (s : DeskState) (lines : List (List ℕ)) (out more : List ℕ) (t u : DeskState)
      → IsTranscript s lines out t → IsTranscript s lines more u → (out ≡ more) × (t ≡ u)
