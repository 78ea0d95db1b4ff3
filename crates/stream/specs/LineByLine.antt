-- Lines are answered one by one, and a refused one changes nothing.
use Rattle.std.specs.Prelude.{◌≡◌, ℕ, List, [], ◌∷◌, ◌++◌}
use Rattle.desk.specs.Desks.{DeskState}
use Rattle.desk.specs.Responses.{IsRefusal}
use Rattle.stream.specs.Transcripts.{IsTranscript}

-- the first of some lines is answered, and then the others from what then stands
pub record FirstAnswered (s : DeskState) (line : List ℕ) (lines : List (List ℕ)) (out : List ℕ) (t : DeskState) : Type 0 where
  pub answer : List ℕ
  pub rest : List ℕ
  pub between : DeskState
  pub printed : out ≡ answer ++ rest
  pub first : IsTranscript s (line ∷ []) answer between
  pub others : IsTranscript between lines rest t

pub record LineByLine : Type 0 where
  pub one_by_one : (s : DeskState) (line : List ℕ) (lines : List (List ℕ)) (out : List ℕ) (t : DeskState)
      → IsTranscript s (line ∷ lines) out t → FirstAnswered s line lines out t
  pub refused : (s : DeskState) (line answer : List ℕ) (t : DeskState)
      → IsTranscript s (line ∷ []) answer t → IsRefusal answer → t ≡ s
