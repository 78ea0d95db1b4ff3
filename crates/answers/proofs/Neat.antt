-- The fields of an answer have only bytes above a space. So a text is one line, and is cut at its spaces into the fields again.
-- It has at most 96 bytes, since its numbers fit their Rust types.
use Rattle.std.proofs.Common.{◌≡◌, ℕ, suc, ◌+◌, ◌^◌, ◌<◌, ◌≤◌, ◌≢◌, true, List, [], ◌∷◌, ◌++◌, length, ℤ, pos, negsuc, Some, None, Ok, Err, decimal, Option, Result, All, IfSome, nat_lt, codes, w32, w64, SFits, refl, arith, length-append}
use lib.Signed.{mag}
use Rattle.std.proofs.lemmas.Fmt.{digits_decimal, length-decimal-le, length_signed_le}
use Rattle.std.proofs.lemmas.List.Elements.{All-append, All-cons, All-from_get_or, All-from_recursion, All-nil, All-weaker, recursion_from_All}
use Rattle.std.proofs.lemmas.Str.Parse.{digit_at}
use Rattle.std.specs.Fmt.{signed_decimal}
use Rattle.std.specs.List.{AllByRecursion, list_all}
use Rattle.book.specs.declared.faults.BookFault.TheVariants as books
use Rattle.book.specs.declared.faults.DayFault.TheVariants as days
use Rattle.house.specs.declared.faults.HouseFault.TheVariants as houses
use Rattle.lines.specs.Fields.{fields, spaced, trailed}
use Rattle.lines.specs.Values.{signed_if}
use Rattle.lines.proofs.Cuts.{AllSpaceless, Spaceless, fields_spaced}
use Rattle.lines.proofs.Numbers.{own}
use Rattle.rows.specs.Steps.{letter}
use Rattle.rows.specs.declared.steps.Step.{Step}
use Rattle.rows.specs.declared.steps.Step.TheVariants.{Auction, Trade, Quote, Average, Theory, TheoryUp, Spread, PreviousSpread, Copy, Previous, Ruling}
use Rattle.answers.specs.Faults.{line_detail, line_number}
use Rattle.answers.specs.Texts.{Longest, AllOneLine, Typed, answer_fields, answer_text, detail_fields}
use Rattle.calls.specs.declared.call.Reply.{Reply}
use Rattle.calls.specs.declared.call.Reply.TheVariants.{Done, Listed, Settled}
use Rattle.answers.specs.declared.faults.LineFault.{LineFault}
use Rattle.answers.specs.declared.faults.LineFault.TheVariants.{NoDay, SecondDay, Day, Ladders, House, NotRead, ShortBuffer}

abbrev Above : ℕ → Type 0
Above b = 32 < b

abbrev Neat : List ℕ → Type 0
Neat f = AllByRecursion Above f

abbrev AllNeat : List (List ℕ) → Type 0
AllNeat fs = AllByRecursion Neat fs

-- ---- fields

word_neat : (f : List ℕ) → list_all (λ b. nat_lt 32 b) f ≡ true → Neat f
word_neat [] t = tt
word_neat (b ∷ bs) t = (grind arith, word_neat bs (grind arith))

number_neat : (n : ℕ) → n < 2 ^ 64 → Neat (decimal n)
number_neat n h =
    recursion_from_All Above (decimal n)
    (All-from_get_or Above (decimal n) 0 (λ i l. omega (arith, digit_at (decimal n) i (digits_decimal own n h) l)))

signed_neat : (z : ℤ) → mag z < 2 ^ 63 → Neat (signed_decimal z)
signed_neat (pos n) h = number_neat n (omega arith)
signed_neat (negsuc n) h = (omega arith, number_neat (suc n) (omega arith))

time_neat : (t : Option ℤ) → IfSome t (SFits w32) → Neat (signed_if t)
time_neat None h = (omega arith, tt)
time_neat (Some z) h = signed_neat z (omega (arith, h.sfits))

letter_neat : (s : Step) → Neat (letter s ∷ [])
letter_neat Auction = word_neat (letter Auction ∷ []) refl
letter_neat Trade = word_neat (letter Trade ∷ []) refl
letter_neat Quote = word_neat (letter Quote ∷ []) refl
letter_neat Average = word_neat (letter Average ∷ []) refl
letter_neat Theory = word_neat (letter Theory ∷ []) refl
letter_neat TheoryUp = word_neat (letter TheoryUp ∷ []) refl
letter_neat Spread = word_neat (letter Spread ∷ []) refl
letter_neat PreviousSpread = word_neat (letter PreviousSpread ∷ []) refl
letter_neat Copy = word_neat (letter Copy ∷ []) refl
letter_neat Previous = word_neat (letter Previous ∷ []) refl
letter_neat Ruling = word_neat (letter Ruling ∷ []) refl

detail_neat : (d : Option ℕ) → IfSome d (λ n. n < 2 ^ 8) → AllNeat (detail_fields d)
detail_neat None h = tt
detail_neat (Some n) h = (number_neat n (omega arith), tt)

pub number_small : (f : LineFault) → line_number f ≤ 13
number_small NoDay = omega arith
number_small SecondDay = omega arith
number_small (Day days.NotLawful) = omega arith
number_small (Ladders f) = omega arith
number_small (House houses.WrongPhase) = omega arith
number_small (House houses.SeriesFull) = omega arith
number_small (House houses.NoSuchSeries) = omega arith
number_small (House houses.TermsNotLawful) = omega arith
number_small (House houses.SuppliedBeyondLimits) = omega arith
number_small (House houses.OffLadder) = omega arith
number_small (House houses.SpreadNotFollowing) = omega arith
number_small (House (houses.NoPrice origin)) = omega arith
number_small (House (houses.Book books.BeyondLimits)) = omega arith
number_small (House (houses.Book books.Full)) = omega arith
number_small (NotRead e) = omega arith
number_small ShortBuffer = omega arith

fields_neat : (r : Result Reply LineFault) → Typed r → AllNeat (answer_fields r)
fields_neat (Ok Done) t = (word_neat (codes "done") refl, tt)
fields_neat (Ok (Listed n)) t = (word_neat (codes "listed") refl, (number_neat n (omega arith), tt))
fields_neat (Ok (Settled z s)) t =
    let place : Neat (decimal s.place) = number_neat s.place (omega (arith, t.2)) in
    let ends : AllNeat ((letter s.step ∷ []) ∷ decimal s.place ∷ signed_if s.time ∷ []) = (letter_neat s.step, (place, (time_neat s.time t.3, tt))) in
    (word_neat (codes "price") refl, (signed_neat z t.0.sfits, (signed_neat s.price t.1.sfits, ends)))
fields_neat (Err f) t =
    let number : Neat (decimal (line_number f)) = number_neat (line_number f) (omega (arith, number_small f)) in
    (word_neat (codes "refused") refl, (number, detail_neat (line_detail f) t))

-- ---- one line

abbrev Unbroken : List ℕ → Type 0
Unbroken f = All (λ b. b ≢ 10) f

field_line : (f : List ℕ) → Neat f → Unbroken f
field_line f n =
    All-weaker Above (λ b. b ≢ 10) (λ b h e. omega arith) f (All-from_recursion Above f n)

trailed_line : (fs : List (List ℕ)) → AllNeat fs → Unbroken (trailed fs)
trailed_line [] h = All-nil (λ b. b ≢ 10)
trailed_line (f ∷ fs) h =
    All-cons (λ b. b ≢ 10) 32 (f ++ trailed fs) (λ e. omega arith)
    (All-append (λ b. b ≢ 10) f (trailed fs) (field_line f h.0) (trailed_line fs h.1))

spaced_line : (fs : List (List ℕ)) → AllNeat fs → Unbroken (spaced fs)
spaced_line [] h = All-nil (λ b. b ≢ 10)
spaced_line (f ∷ fs) h = All-append (λ b. b ≢ 10) f (trailed fs) (field_line f h.0) (trailed_line fs h.1)

pub one_line : AllOneLine
one_line r t = record { no_newline = spaced_line (answer_fields r) (fields_neat r t) }

-- ---- how long a text is

-- how many bytes the fields have, with a space before each
abbrev byte_count : List (List ℕ) → ℕ
byte_count [] = 0
byte_count (f ∷ fs) = 1 + length f + byte_count fs

trailed_bytes : (fs : List (List ℕ)) → length (trailed fs) ≡ byte_count fs
trailed_bytes [] = refl
trailed_bytes (f ∷ fs) = omega (arith, length-append f (trailed fs), trailed_bytes fs)

spaced_bytes : (fs : List (List ℕ)) → length (spaced fs) ≤ byte_count fs
spaced_bytes [] = omega arith
spaced_bytes (f ∷ fs) = omega (arith, length-append f (trailed fs), trailed_bytes fs)

number_short : (n : ℕ) → n < 2 ^ 8 → length (decimal n) ≤ 3
number_short n h = omega (arith, length-decimal-le 3 n (omega arith) (omega arith) (omega arith))

signed_short : (z : ℤ) → SFits w64 z → length (signed_decimal z) ≤ 20
signed_short z h = omega (arith, length_signed_le 19 z (omega (arith, h.sfits)) h.sfits)

time_short : (t : Option ℤ) → IfSome t (SFits w32) → length (signed_if t) ≤ 11
time_short None h = omega arith
time_short (Some z) h = omega (arith, length_signed_le 10 z (omega (arith, h.sfits)) (omega (arith, h.sfits)))

detail_short : (d : Option ℕ) → IfSome d (λ n. n < 2 ^ 8) → byte_count (detail_fields d) ≤ 4
detail_short None h = omega arith
detail_short (Some n) h = omega (arith, number_short n h)

pub text_short : Longest 96
text_short (Ok Done) t = omega arith
text_short (Ok (Listed n)) t = omega (arith, spaced_bytes (answer_fields (Ok (Listed n))), number_short n t)
text_short (Ok (Settled z s)) t =
    omega (
      arith,
      spaced_bytes (answer_fields (Ok (Settled z s))),
      signed_short z t.0,
      signed_short s.price t.1,
      number_short s.place t.2,
      time_short s.time t.3,
    )
text_short (Err f) t =
    let number = number_short (line_number f) (omega (arith, number_small f)) in
    omega (arith, spaced_bytes (answer_fields (Err f)), number, detail_short (line_detail f) t)

-- ---- the fields again

-- a byte above a space is none
spaceless : (f : List ℕ) → Neat f → Spaceless f
spaceless [] h = tt
spaceless (b ∷ f) h = ((λ e. omega (arith, h.0)), spaceless f h.1)

all_spaceless : (fs : List (List ℕ)) → AllNeat fs → AllSpaceless fs
all_spaceless [] h = tt
all_spaceless (f ∷ fs) h = (spaceless f h.0, all_spaceless fs h.1)

cut_spaced : (fs : List (List ℕ)) → AllNeat fs → 0 < length fs → fields (spaced fs) ≡ fs
cut_spaced [] h l = absurd (omega arith)
cut_spaced (f ∷ fs) h l = fields_spaced f fs (spaceless f h.0) (all_spaceless fs h.1)

some_field : (r : Result Reply LineFault) → 0 < length (answer_fields r)
some_field (Ok Done) = omega arith
some_field (Ok (Listed n)) = omega arith
some_field (Ok (Settled z s)) = omega arith
some_field (Err f) = omega arith

pub fields_text : (r : Result Reply LineFault) → Typed r → fields (answer_text r) ≡ answer_fields r
fields_text r t = cut_spaced (answer_fields r) (fields_neat r t) (some_field r)
