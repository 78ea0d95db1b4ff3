-- A whole input answered, or as much of it as there was before an error.
use Rattle.std.specs.Prelude.{◌≡◌, ℕ, ◌≤◌, ◌⊎◌, List, ◌++◌, length, Option}
use Rattle.std.specs.Io.KnownBytes.{Appends, Consumes, IsAtEnd}
use Rattle.book.specs.Ledgers.{Ledger}
use Rattle.desk.specs.Desks.{DeskState, waiting}
use Rattle.stream.specs.Inputs.{FirstLines, Splits, lines_of}
use Rattle.stream.specs.Transcripts.{IsTranscript}

-- an input was read to its end, if it is known what there was to read, and the transcript of its lines was written, if it is known
-- what the writer had; the book that was lent then has what the calls left
pub record Served (remaining left before after : Option (List ℕ)) (old new : Ledger) : Type 0 where
  pub input : List ℕ
  pub out : List ℕ
  pub desk_state : DeskState
  pub read : Consumes remaining left input
  pub at_end : IsAtEnd left
  pub written : Appends before after out
  pub is_transcript : IsTranscript (waiting old) (lines_of input) out desk_state
  pub book : new ≡ desk_state.book

-- what was read is an earlier part and a last piece of at most 8,192 bytes. All lines that ended in the earlier part are answered, and
-- their whole transcript was written. Of the lines that ended in what follows them, the line begun there and the piece, the first are
-- answered, or all lines where the input has ended; of their transcript a front was written, and at most 4,193 bytes are lost. The book
-- has what the calls of all answered lines left
pub record ServedInPart (remaining left before after : Option (List ℕ)) (old new : Ledger) : Type 0 where
  pub earlier : List ℕ
  pub piece : List ℕ
  pub ended : List (List ℕ)
  pub begun : List ℕ
  pub out : List ℕ
  pub between : DeskState
  pub more : List (List ℕ)
  pub sent : List ℕ
  pub lost : List ℕ
  pub desk_state : DeskState
  pub read : Consumes remaining left (earlier ++ piece)
  pub short : length piece ≤ 8192
  pub split : Splits earlier ended begun
  pub ended_answered : IsTranscript (waiting old) ended out between
  pub first : FirstLines (begun ++ piece) more ⊎ (IsAtEnd left × (more ≡ lines_of (begun ++ piece)))
  pub more_answered : IsTranscript between more (sent ++ lost) desk_state
  pub written : Appends before after (out ++ sent)
  pub few : length lost ≤ 4193
  pub book : new ≡ desk_state.book
