-- The grammar of lines, by a writer.
use Rattle.std.specs.Prelude.{◌≡◌, ℕ, ◌+◌, ◌<◌, ◌≤◌, List, [], ◌∷◌, map, length, ℤ, Ok, Err, codes, Result, ◌≢◌}
use Rattle.std.specs.Fmt.{signed_decimal}
use Rattle.book.specs.declared.entries.Kind.{Kind}
use Rattle.book.specs.declared.entries.Kind.TheVariants as kinds
use Rattle.house.specs.declared.phases.Bell.{Bell}
use Rattle.house.specs.declared.phases.Bell.TheVariants as bells
use Rattle.rows.specs.declared.places.Edition.{Edition}
use Rattle.rows.specs.Editions.{edition_name}
use Rattle.calls.specs.declared.call.Call.TheVariants as house_calls
use Rattle.lines.specs.declared.line_calls.LineCall.{LineCall}
use Rattle.lines.specs.declared.line_calls.LineCall.TheVariants as line_calls
use Rattle.lines.specs.declared.faults.NotRead.{NotRead}
use Rattle.lines.specs.declared.names.Command.{Command}
use Rattle.lines.specs.declared.names.Command.TheVariants as commands
use Rattle.lines.specs.Fields.{fields, spaced}
use Rattle.lines.specs.Names.{command_name}
use Rattle.lines.specs.Places.{Missed, next_start}
use Rattle.lines.specs.Values.{Brief, BriefIf, mark, signed_if}

-- ---- which command says a call

abbrev pub kind_command : Kind → Command
kind_command (kinds.Trade p n) = commands.Trade
kind_command (kinds.Auction p n) = commands.Auction
kind_command (kinds.Leg p n) = commands.Leg
kind_command (kinds.Spread v) = commands.Spread
kind_command (kinds.Quote b a) = commands.Quote

abbrev pub command : LineCall → Command
command (line_calls.Day d ts) = commands.Day
command (line_calls.Call (house_calls.List t)) = commands.List
command (line_calls.Call (house_calls.Ring b)) = commands.Bell
command (line_calls.Call (house_calls.Enter e)) = kind_command e.kind
command (line_calls.Call (house_calls.SetTheory n v)) = commands.Theory
command (line_calls.Call (house_calls.SetRuling n v first)) = commands.Ruling
command (line_calls.Call (house_calls.Settle n e)) = commands.Settle

-- ---- the values after it

abbrev pub bell_word : Bell → List ℕ
bell_word bells.Open = codes "open"
bell_word bells.Close = codes "close"

-- as the edition is printed
abbrev pub edition_word : Edition → List ℕ
edition_word = edition_name

abbrev pub kind_fields : Kind → List (List ℕ)
kind_fields (kinds.Trade p n) = signed_decimal p ∷ signed_decimal n ∷ []
kind_fields (kinds.Auction p n) = signed_decimal p ∷ signed_decimal n ∷ []
kind_fields (kinds.Leg p n) = signed_decimal p ∷ signed_decimal n ∷ []
kind_fields (kinds.Spread v) = signed_decimal v ∷ []
kind_fields (kinds.Quote b a) = signed_if b ∷ signed_if a ∷ []

abbrev pub value_fields : LineCall → List (List ℕ)
value_fields (line_calls.Day d ts) =
    signed_decimal d.night ∷ signed_decimal d.opening ∷ signed_decimal d.afternoon ∷ signed_decimal d.close ∷ signed_decimal d.cut ∷ map signed_decimal ts
value_fields (line_calls.Call (house_calls.List t)) =
    signed_decimal t.family ∷ signed_decimal t.ladder ∷ signed_if t.reference ∷ signed_if t.previous_settlement ∷ signed_if t.previous_spread
    ∷ mark t.marks.last_day ∷ mark t.marks.quarter_end ∷ []
value_fields (line_calls.Call (house_calls.Ring b)) = bell_word b ∷ []
value_fields (line_calls.Call (house_calls.Enter e)) = signed_decimal e.series ∷ signed_decimal e.stamp ∷ kind_fields e.kind
value_fields (line_calls.Call (house_calls.SetTheory n v)) = signed_decimal n ∷ signed_if v ∷ []
value_fields (line_calls.Call (house_calls.SetRuling n v first)) = signed_decimal n ∷ signed_if v ∷ mark first ∷ []
value_fields (line_calls.Call (house_calls.Settle n e)) = signed_decimal n ∷ edition_word e ∷ []

-- a line's fields: the command's name and the values
abbrev pub spelled : LineCall → List (List ℕ)
spelled c = command_name (command c) ∷ value_fields c

abbrev pub written : LineCall → List ℕ
written c = spaced (spelled c)

-- ---- calls whose values have at most ten digits

abbrev pub AllBrief : List ℤ → Type 0
AllBrief [] = Unit {0}
AllBrief (z ∷ zs) = Brief z × AllBrief zs

abbrev pub BriefKind : Kind → Type 0
BriefKind (kinds.Trade p n) = Brief p × Brief n
BriefKind (kinds.Auction p n) = Brief p × Brief n
BriefKind (kinds.Leg p n) = Brief p × Brief n
BriefKind (kinds.Spread v) = Brief v
BriefKind (kinds.Quote b a) = BriefIf b × BriefIf a

abbrev pub BriefCall : LineCall → Type 0
BriefCall (line_calls.Day d ts) =
    (Brief d.night × Brief d.opening × Brief d.afternoon × Brief d.close × Brief d.cut) × (length ts ≡ 4) × AllBrief ts
BriefCall (line_calls.Call (house_calls.List t)) =
    Brief t.family × Brief t.ladder × BriefIf t.reference × BriefIf t.previous_settlement × BriefIf t.previous_spread
BriefCall (line_calls.Call (house_calls.Ring b)) = Unit {0}
BriefCall (line_calls.Call (house_calls.Enter e)) = Brief e.series × Brief e.stamp × BriefKind e.kind
BriefCall (line_calls.Call (house_calls.SetTheory n v)) = Brief n × BriefIf v
BriefCall (line_calls.Call (house_calls.SetRuling n v first)) = Brief n × BriefIf v
BriefCall (line_calls.Call (house_calls.Settle n e)) = Brief n

-- the same of the calls that one command says
pub record Named (k : Command) (c : LineCall) : Type 0 where
  pub brief : BriefCall c
  pub named : command c ≡ k

-- ---- what reading a line gives

-- 200 of a longer line, else where its fields depart from the writing of every call
pub record LinePlace (line : List ℕ) (p : ℕ) : Type 0 where
  pub long : 200 < length line → p ≡ 200
  pub short : length line ≤ 200 → Missed spelled BriefCall (fields line) 0 p

abbrev pub Parsed : List ℕ → Result LineCall NotRead → Type 0
Parsed line (Ok c) = BriefCall c × (line ≡ written c)
Parsed line (Err e) = ((c : LineCall) → BriefCall c → line ≢ written c) × LinePlace line e.place

-- no other call has the line, and no other place is the line's
abbrev pub Alone : List ℕ → Result LineCall NotRead → Type 0
Alone line (Ok c) = (d : LineCall) → BriefCall d → line ≡ written d → d ≡ c
Alone line (Err e) = (p : ℕ) → LinePlace line p → p ≡ e.place

-- the line of a call has at most 200 bytes; of any other line the place is a byte of it, or its end
abbrev pub Within : List ℕ → Result LineCall NotRead → Type 0
Within line (Ok c) = length line ≤ 200
Within line (Err e) = e.place ≤ length line

-- ---- laws of the grammar

-- no line of a call is longer
abbrev pub Longest : ℕ → Type 0
Longest n = (c : LineCall) → BriefCall c → length (written c) ≤ n

-- no two calls share a line
abbrev pub WritingsApart : Type 0
WritingsApart = (c d : LineCall) → BriefCall c → BriefCall d → written c ≡ written d → c ≡ d

-- no line is read in two ways
abbrev pub OneReading : Type 0
OneReading = (line : List ℕ) (r q : Result LineCall NotRead) → Parsed line r → Parsed line q → r ≡ q

-- no line has two places
abbrev pub OnePlace : Type 0
OnePlace = (line : List ℕ) (p q : ℕ) → LinePlace line p → LinePlace line q → p ≡ q

-- after all the fields of a line a next one would begin behind a space at the line's end: where a field is lacking, the place
-- is the line's length
abbrev pub FieldsEnd : Type 0
FieldsEnd = (line : List ℕ) → next_start (fields line) 0 ≡ length line + 1
