-- What a desk makes of a line and of the buffer for the answer.
use Rattle.std.specs.Prelude.{◌≡◌, ℕ, ◌<◌, ◌≤◌, List, length, take, codes, Err, MatchResult, Result}
use Rattle.calls.specs.declared.call.Reply.{Reply}
use Rattle.lines.specs.Spelled.{Parsed}
use Rattle.lines.specs.declared.line_calls.LineCall.{LineCall}
use Rattle.lines.specs.declared.faults.NotRead.{NotRead}
use Rattle.answers.specs.Texts.{answer_text}
use Rattle.answers.specs.Written.{Replied}
use Rattle.answers.specs.declared.faults.LineFault.{LineFault}
use Rattle.answers.specs.declared.faults.LineFault.TheVariants.{ShortBuffer}
use Rattle.desk.specs.Desks.{DeskState, line_after, line_answer}

-- the line is read by the grammar, in the one way there is; what was read is answered, and what then stands is told
pub record LineAnswered (line : List ℕ) (s : DeskState) (answer : Result Reply LineFault) (t : DeskState) : Type 0 where
  pub read : Result LineCall NotRead
  pub parsed : Parsed line read
  pub answered : answer ≡ line_answer s read
  pub after : t ≡ line_after s read

-- a buffer of fewer than 96 bytes is refused before the line is looked at, and nothing changes; else the answer's bytes stand at
-- the front of the buffer, and the bytes after them are as they were
pub record Responded (line : List ℕ) (s : DeskState) (old : List ℕ) (r : Result ℕ LineFault) (new : List ℕ) (t : DeskState) : Type 0 where
  pub short : length old < 96 → (r ≡ Err ShortBuffer) × (new ≡ old) × (t ≡ s)
  pub long : 96 ≤ length old → (answer : Result Reply LineFault) × LineAnswered line s answer t × Replied (answer_text answer) old r new

-- whether a text is that of a refusal
abbrev pub IsRefusal : List ℕ → Type 0
IsRefusal text = take 7 text ≡ codes "refused"

-- a line that was refused, by the text that the buffer then has, or since the buffer was too short, left house and book as they were
abbrev pub RefusedStays : DeskState → Result ℕ LineFault → List ℕ → DeskState → Type 0
RefusedStays s r new t = MatchResult r (λ n. IsRefusal (take n new) → t ≡ s) (λ _. t ≡ s)
