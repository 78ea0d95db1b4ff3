-- The calls of each command, as the values that are read for it.
use Rattle.std.proofs.Common.{◌≡◌, ℕ, Bool, List, [], ◌∷◌, ℤ, Option, refl, subst, arith}
use Rattle.std.specs.Fmt.{signed_decimal}
use Rattle.book.specs.declared.days.Day.{Day}
use Rattle.book.specs.declared.entries.Kind.{Kind}
use Rattle.book.specs.declared.entries.Kind.TheVariants as kinds
use Rattle.house.specs.declared.phases.Bell.{Bell}
use Rattle.rows.specs.declared.places.Edition.{Edition}
use Rattle.calls.specs.declared.call.Call.TheVariants as house_calls
use Rattle.lines.specs.declared.line_calls.LineCall.{LineCall}
use Rattle.lines.specs.declared.line_calls.LineCall.TheVariants as line_calls
use Rattle.lines.specs.declared.names.Command.{Command}
use Rattle.lines.specs.declared.names.Command.TheVariants as commands
use Rattle.lines.specs.Places.{Missed}
use Rattle.lines.specs.Spelled.{BriefCall, BriefKind, Named, bell_word, command, edition_word, kind_command, value_fields}
use Rattle.lines.specs.Values.{Brief, BriefIf, mark, signed_if}
use Rattle.lines.proofs.Missing.{missed_into}

-- ---- values of five sorts, and tuples of them

pub data Sort : Type 0 where
  number : Sort
  number_if : Sort
  flag : Sort
  bell : Sort
  edition : Sort

abbrev pub Value : Sort → Type 0
Value number = ℤ
Value number_if = Option ℤ
Value flag = Bool
Value bell = Bell
Value edition = Edition

abbrev pub value_spelt : (s : Sort) → Value s → List ℕ
value_spelt number v = signed_decimal v
value_spelt number_if v = signed_if v
value_spelt flag v = mark v
value_spelt bell v = bell_word v
value_spelt edition v = edition_word v

abbrev pub value_lawful : (s : Sort) → Value s → Type 0
value_lawful number v = Brief v
value_lawful number_if v = BriefIf v
value_lawful flag v = Unit {0}
value_lawful bell v = Unit {0}
value_lawful edition v = Unit {0}

abbrev pub Tuple : List Sort → Type 0
Tuple [] = Unit {0}
Tuple (s ∷ ss) = Value s × Tuple ss

abbrev pub tuple_spelt : (ss : List Sort) → Tuple ss → List (List ℕ)
tuple_spelt [] v = []
tuple_spelt (s ∷ ss) v = value_spelt s v.0 ∷ tuple_spelt ss v.1

abbrev pub tuple_lawful : (ss : List Sort) → Tuple ss → Type 0
tuple_lawful [] v = Unit {0}
tuple_lawful (s ∷ ss) v = value_lawful s v.0 × tuple_lawful ss v.1

-- ---- the values of each command

abbrev pub sorts : Command → List Sort
sorts commands.Day = number ∷ number ∷ number ∷ number ∷ number ∷ number ∷ number ∷ number ∷ number ∷ []
sorts commands.List = number ∷ number ∷ number_if ∷ number_if ∷ number_if ∷ flag ∷ flag ∷ []
sorts commands.Bell = bell ∷ []
sorts commands.Trade = number ∷ number ∷ number ∷ number ∷ []
sorts commands.Auction = number ∷ number ∷ number ∷ number ∷ []
sorts commands.Leg = number ∷ number ∷ number ∷ number ∷ []
sorts commands.Spread = number ∷ number ∷ number ∷ []
sorts commands.Quote = number ∷ number ∷ number_if ∷ number_if ∷ []
sorts commands.Theory = number ∷ number_if ∷ []
sorts commands.Ruling = number ∷ number_if ∷ flag ∷ []
sorts commands.Settle = number ∷ edition ∷ []

abbrev pub Parts : Command → Type 0
Parts k = Tuple (sorts k)

abbrev pub parts_spelt : (k : Command) → Parts k → List (List ℕ)
parts_spelt k v = tuple_spelt (sorts k) v

abbrev pub parts_lawful : (k : Command) → Parts k → Type 0
parts_lawful k v = tuple_lawful (sorts k) v

abbrev pub call_of : (k : Command) → Parts k → LineCall
call_of commands.Day v = line_calls.Day (record { night = v.0; opening = v.1.0; afternoon = v.1.1.0; close = v.1.1.1.0; cut = v.1.1.1.1.0 }) (v.1.1.1.1.1.0 ∷ v.1.1.1.1.1.1.0 ∷ v.1.1.1.1.1.1.1.0 ∷ v.1.1.1.1.1.1.1.1.0 ∷ [])
call_of commands.List v = line_calls.Call (house_calls.List (record { family = v.0; ladder = v.1.0; reference = v.1.1.0; previous_settlement = v.1.1.1.0; previous_spread = v.1.1.1.1.0; marks = record { last_day = v.1.1.1.1.1.0; quarter_end = v.1.1.1.1.1.1.0 } }))
call_of commands.Bell v = line_calls.Call (house_calls.Ring v.0)
call_of commands.Trade v = line_calls.Call (house_calls.Enter (record { series = v.0; stamp = v.1.0; kind = kinds.Trade v.1.1.0 v.1.1.1.0 }))
call_of commands.Auction v = line_calls.Call (house_calls.Enter (record { series = v.0; stamp = v.1.0; kind = kinds.Auction v.1.1.0 v.1.1.1.0 }))
call_of commands.Leg v = line_calls.Call (house_calls.Enter (record { series = v.0; stamp = v.1.0; kind = kinds.Leg v.1.1.0 v.1.1.1.0 }))
call_of commands.Spread v = line_calls.Call (house_calls.Enter (record { series = v.0; stamp = v.1.0; kind = kinds.Spread v.1.1.0 }))
call_of commands.Quote v = line_calls.Call (house_calls.Enter (record { series = v.0; stamp = v.1.0; kind = kinds.Quote v.1.1.0 v.1.1.1.0 }))
call_of commands.Theory v = line_calls.Call (house_calls.SetTheory v.0 v.1.0)
call_of commands.Ruling v = line_calls.Call (house_calls.SetRuling v.0 v.1.0 v.1.1.0)
call_of commands.Settle v = line_calls.Call (house_calls.Settle v.0 v.1.0)

-- the values make a call of the command
pub named_to : (k : Command) (v : Parts k) → parts_lawful k v → (c : LineCall) × Named k c × (value_fields c ≡ parts_spelt k v)
named_to commands.Day v h = (call_of commands.Day v, record { brief = ((h.0, h.1.0, h.1.1.0, h.1.1.1.0, h.1.1.1.1.0), refl, (h.1.1.1.1.1.0, (h.1.1.1.1.1.1.0, (h.1.1.1.1.1.1.1.0, (h.1.1.1.1.1.1.1.1.0, tt))))); named = refl }, refl)
named_to commands.List v h = (call_of commands.List v, record { brief = (h.0, h.1.0, h.1.1.0, h.1.1.1.0, h.1.1.1.1.0); named = refl }, refl)
named_to commands.Bell v h = (call_of commands.Bell v, record { brief = tt; named = refl }, refl)
named_to commands.Trade v h = (call_of commands.Trade v, record { brief = (h.0, h.1.0, (h.1.1.0, h.1.1.1.0)); named = refl }, refl)
named_to commands.Auction v h = (call_of commands.Auction v, record { brief = (h.0, h.1.0, (h.1.1.0, h.1.1.1.0)); named = refl }, refl)
named_to commands.Leg v h = (call_of commands.Leg v, record { brief = (h.0, h.1.0, (h.1.1.0, h.1.1.1.0)); named = refl }, refl)
named_to commands.Spread v h = (call_of commands.Spread v, record { brief = (h.0, h.1.0, h.1.1.0); named = refl }, refl)
named_to commands.Quote v h = (call_of commands.Quote v, record { brief = (h.0, h.1.0, (h.1.1.0, h.1.1.1.0)); named = refl }, refl)
named_to commands.Theory v h = (call_of commands.Theory v, record { brief = (h.0, h.1.0); named = refl }, refl)
named_to commands.Ruling v h = (call_of commands.Ruling v, record { brief = (h.0, h.1.0); named = refl }, refl)
named_to commands.Settle v h = (call_of commands.Settle v, record { brief = h.0; named = refl }, refl)

-- a call is made of such values
abbrev pub Made : Command → LineCall → Type 0
Made k c = (v : Parts k) × parts_lawful k v × (parts_spelt k v ≡ value_fields c) × (call_of k v ≡ c)

made_day : (d : Day) (ts : List ℤ) → BriefCall (line_calls.Day d ts) → Made commands.Day (line_calls.Day d ts)
made_day d [] b = absurd (omega arith)
made_day d (t ∷ []) b = absurd (omega arith)
made_day d (t ∷ u ∷ []) b = absurd (omega arith)
made_day d (t ∷ u ∷ v ∷ []) b = absurd (omega arith)
made_day d (t ∷ u ∷ v ∷ w ∷ []) b = (
  (d.night, (d.opening, (d.afternoon, (d.close, (d.cut, (t, (u, (v, (w, tt))))))))),
  (b.0.0, (b.0.1, (b.0.2, (b.0.3, (b.0.4, (b.2.0, (b.2.1.0, (b.2.1.1.0, (b.2.1.1.1.0, tt))))))))),
  refl,
  refl,
)
made_day d (t ∷ u ∷ v ∷ w ∷ x ∷ ts) b = absurd (omega arith)

made_entry : (n stamp : ℤ) (k : Kind) → Brief n → Brief stamp → BriefKind k → Made (kind_command k) (line_calls.Call (house_calls.Enter (record { series = n; stamp = stamp; kind = k })))
made_entry n stamp (kinds.Trade x y) b d e = ((n, (stamp, (x, (y, tt)))), (b, (d, (e.0, (e.1, tt)))), refl, refl)
made_entry n stamp (kinds.Auction x y) b d e = ((n, (stamp, (x, (y, tt)))), (b, (d, (e.0, (e.1, tt)))), refl, refl)
made_entry n stamp (kinds.Leg x y) b d e = ((n, (stamp, (x, (y, tt)))), (b, (d, (e.0, (e.1, tt)))), refl, refl)
made_entry n stamp (kinds.Quote x y) b d e = ((n, (stamp, (x, (y, tt)))), (b, (d, (e.0, (e.1, tt)))), refl, refl)
made_entry n stamp (kinds.Spread x) b d e = ((n, (stamp, (x, tt))), (b, (d, (e, tt))), refl, refl)

pub made : (c : LineCall) → BriefCall c → Made (command c) c
made (line_calls.Day d ts) b = made_day d ts b
made (line_calls.Call (house_calls.List t)) b = (
  (t.family, (t.ladder, (t.reference, (t.previous_settlement, (t.previous_spread, (t.marks.last_day, (t.marks.quarter_end, tt))))))),
  (b.0, (b.1, (b.2, (b.3, (b.4, (tt, (tt, tt))))))),
  refl,
  refl,
)
made (line_calls.Call (house_calls.Ring r)) b = ((r, tt), (tt, tt), refl, refl)
made (line_calls.Call (house_calls.Enter e)) b = made_entry e.series e.stamp e.kind b.0 b.1 b.2
made (line_calls.Call (house_calls.SetTheory n v)) b = ((n, (v, tt)), (b.0, (b.1, tt)), refl, refl)
made (line_calls.Call (house_calls.SetRuling n v first)) b = ((n, (v, (first, tt))), (b.0, (b.1, (tt, tt))), refl, refl)
made (line_calls.Call (house_calls.Settle n e)) b = ((n, (e, tt)), (b, (tt, tt)), refl, refl)

pub made_named : (k : Command) (c : LineCall) → Named k c → Made k c
made_named k c n = let P : Command → Type 0 = λ j. Made j c in subst P n.named (made c n.brief)

-- what is missed of the values is missed of the calls
pub missed_call : (k : Command) (fs : List (List ℕ)) (q p : ℕ) → Missed (parts_spelt k) (parts_lawful k) fs q p → Missed value_fields (Named k) fs q p
missed_call k =
    missed_into (parts_spelt k) (parts_lawful k) value_fields (Named k) (named_to k)
    (λ c n. let m = made_named k c n in (m.0, m.1, m.2))
