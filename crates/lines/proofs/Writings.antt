-- No two calls share a line, and a line has one place at most.
use Rattle.std.proofs.Common.{◌≡◌, ℕ, ◌^◌, ◌<◌, Bool, true, false, List, [], ◌∷◌, length, get_or, ℤ, pos, negsuc, Some, None, Ok, Err, Option, Result, sym, refl, ap, ◌∙◌, ⊎_elim, arith}
use lib.Signed.{mag}
use Rattle.std.proofs.lemmas.Fmt.{signed_decimal_injective}
use Rattle.std.proofs.lemmas.Bool.{cases_lt}
use Rattle.std.specs.Fmt.{signed_decimal}
use Rattle.house.specs.declared.phases.Bell.{Bell}
use Rattle.house.specs.declared.phases.Bell.TheVariants as bells
use Rattle.rows.specs.declared.places.Edition.{Edition}
use Rattle.rows.specs.declared.places.Edition.TheVariants as editions
use Rattle.lines.specs.declared.line_calls.LineCall.{LineCall}
use Rattle.lines.specs.declared.faults.NotRead.{NotRead}
use Rattle.lines.specs.Fields.{fields}
use Rattle.lines.specs.Names.{command_name}
use Rattle.lines.specs.Spelled.{Alone, BriefCall, Parsed, LinePlace, Within, bell_word, command, edition_word, spelled, value_fields, written}
use Rattle.lines.specs.Values.{Brief, BriefIf, mark, signed_if}
use Rattle.lines.proofs.Apart.{front_free, same_command}
use Rattle.lines.proofs.Ends.{place_within, fields_end}
use Rattle.lines.proofs.Made.{Sort, Tuple, Value, bell, call_of, edition, flag, made, made_named, number, number_if, sorts, tuple_lawful, tuple_spelt, value_lawful, value_spelt}
use Rattle.lines.proofs.Neat.{fields_written, written_short}
use Rattle.lines.proofs.Numbers.{lone_minus}
use Rattle.lines.proofs.OnePlace.{one_place}
use Rattle.lines.proofs.Parsings.{parsed_long, parsed_read, parsed_unknown}

-- ---- values

brief_mag : (z : ℤ) → Brief z → mag z < 2 ^ 63
brief_mag (pos n) h = omega arith
brief_mag (negsuc n) h = omega arith

signed_apart : (y z : ℤ) → Brief y → Brief z → signed_decimal y ≡ signed_decimal z → y ≡ z
signed_apart y z h k = signed_decimal_injective y z (brief_mag y h) (brief_mag z k)

-- no two numbers, missing ones too, are written alike
pub signed_if_apart : (y z : Option ℤ) → BriefIf y → BriefIf z → signed_if y ≡ signed_if z → y ≡ z
signed_if_apart None None h k e = refl
signed_if_apart None (Some z) h k e = absurd (lone_minus z k (sym e))
signed_if_apart (Some y) None h k e = absurd (lone_minus y h e)
signed_if_apart (Some y) (Some z) h k e = ap (λ x. Some x) (signed_apart y z h k e)

mark_apart : (b c : Bool) → mark b ≡ mark c → b ≡ c
mark_apart true true e = refl
mark_apart true false e = absurd (omega (arith, ap (λ xs. get_or xs 0 0) e))
mark_apart false true e = absurd (omega (arith, ap (λ xs. get_or xs 0 0) e))
mark_apart false false e = refl

bell_apart : (b c : Bell) → bell_word b ≡ bell_word c → b ≡ c
bell_apart bells.Open bells.Open e = refl
bell_apart bells.Open bells.Close e = absurd (omega (arith, ap (λ xs. get_or xs 0 0) e))
bell_apart bells.Close bells.Open e = absurd (omega (arith, ap (λ xs. get_or xs 0 0) e))
bell_apart bells.Close bells.Close e = refl

edition_apart : (b c : Edition) → edition_word b ≡ edition_word c → b ≡ c
edition_apart editions.Close editions.Close e = refl
edition_apart editions.Close editions.Morning e = absurd (omega (arith, ap (λ xs. get_or xs 0 0) e))
edition_apart editions.Morning editions.Close e = absurd (omega (arith, ap (λ xs. get_or xs 0 0) e))
edition_apart editions.Morning editions.Morning e = refl

-- ---- calls

pair : {A B : Type 0} (v w : A × B) → v.0 ≡ w.0 → v.1 ≡ w.1 → v ≡ w
pair v w p q = λ i. (p i, q i)

value_apart : (s : Sort) (v w : Value s) → value_lawful s v → value_lawful s w → value_spelt s v ≡ value_spelt s w → v ≡ w
value_apart number v w h k e = signed_apart v w h k e
value_apart number_if v w h k e = signed_if_apart v w h k e
value_apart flag v w h k e = mark_apart v w e
value_apart bell v w h k e = bell_apart v w e
value_apart edition v w h k e = edition_apart v w e

tuple_apart : (ss : List Sort) (v w : Tuple ss) → tuple_lawful ss v → tuple_lawful ss w → tuple_spelt ss v ≡ tuple_spelt ss w → v ≡ w
tuple_apart [] v w h k e = refl
tuple_apart (s ∷ ss) v w h k e =
    let f : value_spelt s v.0 ≡ value_spelt s w.0 = cc in
    let fs : tuple_spelt ss v.1 ≡ tuple_spelt ss w.1 = cc in
    pair v w (value_apart s v.0 w.0 h.0 k.0 f) (tuple_apart ss v.1 w.1 h.1 k.1 fs)

pub written_apart : (c d : LineCall) → BriefCall c → BriefCall d → written c ≡ written d → c ≡ d
written_apart c d b h e =
    let s : command_name (command c) ∷ value_fields c ≡ command_name (command d) ∷ value_fields d = sym (fields_written c b) ∙ ap fields e ∙ fields_written d h in
    let t : value_fields c ≡ value_fields d = cc in
    let m = made_named (command d) c (record { brief = b; named = same_command c (command d) (value_fields d) s }) in
    let n = made d h in
    let p : m.0 ≡ n.0 = tuple_apart (sorts (command d)) m.0 n.0 m.1 n.1 (m.2 ∙ t ∙ sym n.2) in
    sym m.3 ∙ ap (call_of (command d)) p ∙ n.3

-- ---- places

pub place_one : (line : List ℕ) (p p' : ℕ) → LinePlace line p → LinePlace line p' → p ≡ p'
place_one line p p' a b =
    ⊎_elim (λ h. a.long h ∙ sym (b.long h))
    (λ h. one_place spelled BriefCall front_free (fields line) 0 p p' (a.short h) (b.short h))
    (cases_lt 200 (length line))

-- what a line was parsed to is all that it can be
pub parsed_alone : (line : List ℕ) (r : Result LineCall NotRead) → Parsed line r → Alone line r
parsed_alone line (Ok c) h = λ d b e. written_apart d c b h.0 (sym e ∙ h.1)
parsed_alone line (Err e) h = λ p a. place_one line p e.place a h.1

pub one_reading : (line : List ℕ) (r q : Result LineCall NotRead) → Parsed line r → Parsed line q → r ≡ q
one_reading line (Ok c) (Ok d) h k = ap Ok (written_apart c d h.0 k.0 (sym h.1 ∙ k.1))
one_reading line (Ok c) (Err e) h k = absurd (k.0 c h.0 h.1)
one_reading line (Err e) (Ok d) h k = absurd (h.0 d k.0 k.1)
one_reading line (Err e) (Err f) h k = ap (λ p. Err (record { place = p })) (place_one line e.place f.place h.1 k.1)

pub parsed_within : (line : List ℕ) (r : Result LineCall NotRead) → Parsed line r → Within line r
parsed_within line (Ok c) h = omega (arith, ap length h.1, written_short c h.0)
parsed_within line (Err e) h = place_within line e.place h.1

pub ruleset grammar = (written_short, written_apart, place_one, one_reading, fields_end, parsed_alone, parsed_within, parsed_long, parsed_unknown, parsed_read)
