-- The answers as they are printed.
use Rattle.std.specs.Prelude.{◌≡◌, ℕ, ◌^◌, ◌<◌, ◌≤◌, ◌≢◌, List, [], ◌∷◌, length, Ok, Err, Some, None, codes, decimal, Option, Result, All, IfSome, FitsSigned}
use Rattle.std.specs.Int.{w32, w64}
use Rattle.std.specs.Fmt.{signed_decimal}
use Rattle.rows.specs.Steps.{letter}
use Rattle.lines.specs.Fields.{spaced}
use Rattle.lines.specs.Values.{signed_if}
use Rattle.calls.specs.declared.call.Reply.{Reply}
use Rattle.calls.specs.declared.call.Reply.TheVariants.{Done, Listed, Settled}
use Rattle.answers.specs.declared.faults.LineFault.{LineFault}
use Rattle.answers.specs.Faults.{line_detail, line_number}

-- what is told beside the number of a refusal, if anything
abbrev pub detail_fields : Option ℕ → List (List ℕ)
detail_fields None = []
detail_fields (Some n) = decimal n ∷ []

-- the stamp of a price stands last, a minus alone where there is none; the origin stands after 10, and the place in the line after 11
abbrev pub answer_fields : Result Reply LineFault → List (List ℕ)
answer_fields (Ok Done) = codes "done" ∷ []
answer_fields (Ok (Listed n)) = codes "listed" ∷ decimal n ∷ []
answer_fields (Ok (Settled series s)) =
    codes "price"
    ∷ signed_decimal series
    ∷ signed_decimal s.price
    ∷ (letter s.step ∷ [])
    ∷ decimal s.place
    ∷ signed_if s.time
    ∷ []
answer_fields (Err f) = codes "refused" ∷ decimal (line_number f) ∷ detail_fields (line_detail f)

-- with one space between two fields
abbrev pub answer_text : Result Reply LineFault → List ℕ
answer_text r = spaced (answer_fields r)

-- ---- laws of the texts

-- the numbers fit their Rust types
abbrev pub Typed : Result Reply LineFault → Type 0
Typed (Ok Done) = Unit {0}
Typed (Ok (Listed n)) = n < 2 ^ 8
Typed (Ok (Settled series s)) = FitsSigned w64 series × FitsSigned w64 s.price × (s.place < 2 ^ 8) × IfSome s.time (FitsSigned w32)
Typed (Err f) = IfSome (line_detail f) (λ n. n < 2 ^ 8)

-- no answer is longer than n bytes
abbrev pub Longest : ℕ → Type 0
Longest n = (r : Result Reply LineFault) → Typed r → length (answer_text r) ≤ n

-- a text with no newline byte in it
pub record OneLine (text : List ℕ) : Type 0 where
  pub no_newline : All (λ b. b ≢ 10) text

abbrev pub AllOneLine : Type 0
AllOneLine = (r : Result Reply LineFault) → Typed r → OneLine (answer_text r)

-- equal answers, or refusals with the same number and the same origin or place
abbrev pub SameAnswer : Result Reply LineFault → Result Reply LineFault → Type 0
SameAnswer (Ok a) (Ok b) = a ≡ b
SameAnswer (Ok a) (Err g) = ⊥
SameAnswer (Err f) (Ok b) = ⊥
SameAnswer (Err f) (Err g) = (line_number f ≡ line_number g) × (line_detail f ≡ line_detail g)

-- a text tells its answer: no two share one
abbrev pub TextsApart : Type 0
TextsApart =
    (r s : Result Reply LineFault) → Typed r → Typed s → answer_text r ≡ answer_text s → SameAnswer r s
