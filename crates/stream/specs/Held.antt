-- What a session holds between two pieces of its input, and what its calls do.
use Rattle.std.specs.Prelude.{◌≡◌, ℕ, ◌≤◌, List, [], ◌∷◌, ◌++◌, length, take, Option}
use Rattle.std.specs.Io.KnownBytes.{Appends}
use Rattle.book.specs.Ledgers.{Ledger}
use Rattle.desk.specs.Desks.{DeskState, waiting}
use Rattle.stream.specs.Inputs.{Splits, Unbroken, last_line}
use Rattle.stream.specs.Transcripts.{IsTranscript}

-- of a line that has not ended, its first 201 bytes: of any that is longer the answer is the same
abbrev pub first_bytes : List ℕ → List ℕ
first_bytes line = take 201 line

-- a session that stood so, and held the first bytes of some line, was given a piece: the lines that ended in it are answered,
-- and of the last one the first bytes are held
pub record LinesAnswered (s : DeskState) (old piece out : List ℕ) (t : DeskState) (new : List ℕ) : Type 0 where
  pub answers_to : (line : List ℕ) → Unbroken line → old ≡ first_bytes line →
      (lines : List (List ℕ)) × (rest : List ℕ) × Splits (line ++ piece) lines rest × IsTranscript s lines out t × (new ≡ first_bytes rest)

-- ---- what a writer has

-- known bytes grow by a front of these bytes, and the rest is left
pub record AppendsFront (old new : Option (List ℕ)) (bytes rest : List ℕ) : Type 0 where
  pub front : List ℕ
  pub whole : bytes ≡ front ++ rest
  pub appended : Appends old new front

-- ---- a session with its book and its writer

-- what the writer has, where that is known; the answers that it has not got yet; what stands; and what is held of the line that has
-- not ended
pub record View : Type 0 where
  pub contents : Option (List ℕ)
  pub unsent : List ℕ
  pub desk_state : DeskState
  pub held : List ℕ

-- before any input, with a writer that has these bytes and a book of this meaning
abbrev pub at_first : Option (List ℕ) → Ledger → View
at_first contents m = record { contents = contents; unsent = []; desk_state = waiting m; held = [] }

-- after an error this is so of what the writer has, of the desk and of the book; what the session still holds counts no more. Lost are
-- answers of at most 4,193 bytes: the 4,096 that may wait, and one answer of at most 97 with its newline
pub record AfterError (b : View) (IsSo : View → Type 0) : Type 0 where
  pub lost : List ℕ
  pub held : List ℕ
  pub few : length lost ≤ 4193
  pub is_so : IsSo (record { contents = b.contents; unsent = lost; desk_state = b.desk_state; held = held })

-- the line that ends with these bytes is answered, and nothing is held of the next
pub record LineEnded (a : View) (bytes : List ℕ) (b : View) : Type 0 where
  pub out : List ℕ
  pub written : AppendsFront a.contents b.contents (a.unsent ++ out) b.unsent
  pub is_transcript : (line : List ℕ) → a.held ≡ first_bytes line → IsTranscript a.desk_state ((line ++ bytes) ∷ []) out b.desk_state
  pub held : b.held ≡ []

-- given a piece, it answers the lines that ended in it
pub record PieceAnswered (a : View) (piece : List ℕ) (b : View) : Type 0 where
  pub out : List ℕ
  pub written : AppendsFront a.contents b.contents (a.unsent ++ out) b.unsent
  pub lines : LinesAnswered a.desk_state a.held piece out b.desk_state b.held

-- the same, and no answer waits: the writer has all that was printed
pub record PieceTaken (a : View) (piece : List ℕ) (b : View) : Type 0 where
  pub answered : PieceAnswered a piece b
  pub sent : b.unsent ≡ []

-- it answers the lines that ended in a front of the piece, and the rest is left
pub record AnsweredUpTo (a : View) (piece rest : List ℕ) (b : View) : Type 0 where
  pub front : List ℕ
  pub whole : piece ≡ front ++ rest
  pub answered : PieceAnswered a front b

-- at the end of the input the line that has not ended, if there is one, is answered too, and nothing is held any more
pub record InputClosed (a b : View) : Type 0 where
  pub out : List ℕ
  pub written : AppendsFront a.contents b.contents (a.unsent ++ out) b.unsent
  pub last : (line : List ℕ) → Unbroken line → a.held ≡ first_bytes line → IsTranscript a.desk_state (last_line line) out b.desk_state
  pub held : b.held ≡ []

-- the same, and no answer waits: the session has finished
pub record Finished (a b : View) : Type 0 where
  pub closed : InputClosed a b
  pub sent : b.unsent ≡ []

-- of the answers that waited the writer gets a front, and nothing else changes
pub record AnswersSent (a b : View) : Type 0 where
  pub written : AppendsFront a.contents b.contents a.unsent b.unsent
  pub desk_state : b.desk_state ≡ a.desk_state
  pub held : b.held ≡ a.held

-- the same, and none waits any more
pub record Flushed (a b : View) : Type 0 where
  pub answers : AnswersSent a b
  pub sent : b.unsent ≡ []

-- a line is answered, where it stands so: its answer and a newline are printed behind the answers that wait
pub record AnswerPrinted (line : List ℕ) (s : DeskState) (before after : Option (List ℕ)) (old new : List ℕ) (t : DeskState) : Type 0 where
  pub out : List ℕ
  pub written : AppendsFront before after (old ++ out) new
  pub is_transcript : IsTranscript s (line ∷ []) out t
