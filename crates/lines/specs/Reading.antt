-- What a reader has left of its line, and what reading it gives.
use Rattle.std.specs.Prelude.{◌≡◌, ◌≢◌, ℕ, ◌+◌, List, [], ◌∷◌, length, Ok, Err, Result}
use Rattle.lines.specs.declared.faults.NotRead.{NotRead}
use Rattle.lines.specs.declared.readers.Field.{Field}
use Rattle.lines.specs.declared.readers.Reader.{Reader}
use Rattle.lines.specs.Fields.{left_at}
use Rattle.lines.specs.Places.{ReadBy}

abbrev pub line_of : Reader → List ℕ
line_of reader = reader.line.now

-- the fields that were not handed out
abbrev pub left : Reader → List (List ℕ)
left reader = left_at reader.line.now reader.at

-- where the first of them begins: behind the space at the end of the field that was handed out last
abbrev pub left_start : Reader → ℕ
left_start reader = reader.at + 1

-- the first field that is left is handed out at its place; or none is left, nothing moves, and the place is the line's length,
-- one before a next field would begin
abbrev pub NextField : Reader → Result Field NotRead → Reader → Type 0
NextField old (Ok f) new =
    (left old ≡ f.bytes.now ∷ left new) × (f.start ≡ left_start old) × (left_start new ≡ f.start + (length f.bytes.now + 1))
NextField old (Err e) new =
    (left old ≡ []) × (e.place ≡ length (line_of old)) × (e.place + 1 ≡ left_start old) × (left_start new ≡ left_start old)

-- no field is left; or one is too many, and the place is one before it, where the field that was handed out last ends
abbrev pub NoneLeft : Reader → Result Unit NotRead → Type 0
NoneLeft reader (Ok u) = left reader ≡ []
NoneLeft reader (Err e) = (left reader ≢ []) × (e.place + 1 ≡ left_start reader)

-- what reading all that is left gives
abbrev pub ReadFrom : {C : Type 0} → (C → List (List ℕ)) → (C → Type 0) → Reader → Result C NotRead → Type 0
ReadFrom spelt lawful reader r = ReadBy spelt lawful (left reader) (left_start reader) r
