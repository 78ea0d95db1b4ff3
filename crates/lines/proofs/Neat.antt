-- Fields with no space and at most eleven bytes, as every call's are.
use Rattle.std.proofs.Common.{◌≡◌, ℕ, suc, ◌*◌, ◌≤◌, Bool, true, false, not, eqb, List, [], ◌∷◌, length, ℤ, pos, negsuc, Some, None, decimal, Option, refl, subst, arith, length-append, eq-eqb}
use Rattle.std.proofs.lemmas.Fmt.{digits_decimal, length-decimal-le}
use Rattle.std.proofs.lemmas.Str.Parse.{digit_from_value}
use Rattle.std.specs.List.{AllByRecursion, list_all}
use Rattle.std.specs.Str.Parse.{AllDigits}
use Rattle.std.specs.Fmt.{signed_decimal}
use Rattle.house.specs.declared.phases.Bell.{Bell}
use Rattle.house.specs.declared.phases.Bell.TheVariants as bells
use Rattle.rows.specs.declared.places.Edition.{Edition}
use Rattle.rows.specs.declared.places.Edition.TheVariants as editions
use Rattle.lines.specs.declared.line_calls.LineCall.{LineCall}
use Rattle.lines.specs.declared.names.Command.{Command}
use Rattle.lines.specs.declared.names.Command.TheVariants as commands
use Rattle.lines.specs.Fields.{fields, trailed}
use Rattle.lines.specs.Names.{command_name}
use Rattle.lines.specs.Spelled.{BriefCall, bell_word, command, edition_word, spelled, value_fields, written}
use Rattle.lines.specs.Values.{Brief, BriefIf, mark, signed_if}
use Rattle.lines.proofs.Apart.{arity, values_count}
use Rattle.lines.proofs.Cuts.{AllSpaceless, Spaceless, fields_spaced}
use Rattle.lines.proofs.Made.{Sort, Tuple, Value, bell, edition, flag, made, number, number_if, sorts, tuple_lawful, tuple_spelt, value_lawful, value_spelt}
use Rattle.lines.proofs.Numbers.{own}

pub record Neat (f : List ℕ) : Type 0 where
  pub clean : Spaceless f
  pub short : length f ≤ 11

abbrev pub AllNeat : List (List ℕ) → Type 0
AllNeat fs = AllByRecursion Neat fs

-- ---- words

abbrev spaceless : List ℕ → Bool
spaceless f = list_all (λ b. not (eqb b 32)) f

clean_word : (f : List ℕ) → spaceless f ≡ true → Spaceless f
clean_word [] t = tt
clean_word (b ∷ bs) t = ((λ e. grind (arith, eq-eqb b 32 e)), clean_word bs (grind arith))

word_neat : (f : List ℕ) → spaceless f ≡ true → length f ≤ 11 → Neat f
word_neat f t l = record { clean = clean_word f t; short = l }

text_neat : (k : Command) → Neat (command_name k)
text_neat commands.Day = word_neat (command_name commands.Day) refl (omega arith)
text_neat commands.List = word_neat (command_name commands.List) refl (omega arith)
text_neat commands.Bell = word_neat (command_name commands.Bell) refl (omega arith)
text_neat commands.Trade = word_neat (command_name commands.Trade) refl (omega arith)
text_neat commands.Auction = word_neat (command_name commands.Auction) refl (omega arith)
text_neat commands.Leg = word_neat (command_name commands.Leg) refl (omega arith)
text_neat commands.Spread = word_neat (command_name commands.Spread) refl (omega arith)
text_neat commands.Quote = word_neat (command_name commands.Quote) refl (omega arith)
text_neat commands.Theory = word_neat (command_name commands.Theory) refl (omega arith)
text_neat commands.Ruling = word_neat (command_name commands.Ruling) refl (omega arith)
text_neat commands.Settle = word_neat (command_name commands.Settle) refl (omega arith)

bell_neat : (b : Bell) → Neat (bell_word b)
bell_neat bells.Open = word_neat (bell_word bells.Open) refl (omega arith)
bell_neat bells.Close = word_neat (bell_word bells.Close) refl (omega arith)

edition_neat : (e : Edition) → Neat (edition_word e)
edition_neat editions.Close = word_neat (edition_word editions.Close) refl (omega arith)
edition_neat editions.Morning = word_neat (edition_word editions.Morning) refl (omega arith)

mark_neat : (b : Bool) → Neat (mark b)
mark_neat true = word_neat (mark true) refl (omega arith)
mark_neat false = word_neat (mark false) refl (omega arith)

-- ---- numbers

clean_digits : (ds : List ℕ) → AllDigits 10 ds → Spaceless ds
clean_digits [] h = tt
clean_digits (d ∷ ds) h = ((λ e. omega (arith, digit_from_value d h.0)), clean_digits ds h.1)

signed_neat : (z : ℤ) → Brief z → Neat (signed_decimal z)
signed_neat (pos n) h =
    record {
      clean = clean_digits (decimal n) (digits_decimal own n (omega arith));
      short = omega (arith, length-decimal-le 10 n (omega arith) h (omega arith));
    }
signed_neat (negsuc n) h =
    record {
      clean = ((λ e. omega arith), clean_digits (decimal (suc n)) (digits_decimal own (suc n) (omega arith)));
      short = omega (arith, length-decimal-le 10 (suc n) (omega arith) h (omega arith));
    }

signed_if_neat : (v : Option ℤ) → BriefIf v → Neat (signed_if v)
signed_if_neat None h = record { clean = ((λ e. omega arith), tt); short = omega arith }
signed_if_neat (Some z) h = signed_neat z h

-- ---- calls

value_neat : (s : Sort) (v : Value s) → value_lawful s v → Neat (value_spelt s v)
value_neat number v h = signed_neat v h
value_neat number_if v h = signed_if_neat v h
value_neat flag v h = mark_neat v
value_neat bell v h = bell_neat v
value_neat edition v h = edition_neat v

tuple_neat : (ss : List Sort) (v : Tuple ss) → tuple_lawful ss v → AllNeat (tuple_spelt ss v)
tuple_neat [] v h = tt
tuple_neat (s ∷ ss) v h = (value_neat s v.0 h.0, tuple_neat ss v.1 h.1)

values_neat : (c : LineCall) → BriefCall c → AllNeat (value_fields c)
values_neat c b = let m = made c b in subst AllNeat m.2 (tuple_neat (sorts (command c)) m.0 m.1)

all_clean : (fs : List (List ℕ)) → AllNeat fs → AllSpaceless fs
all_clean [] h = tt
all_clean (f ∷ fs) h = (h.0.clean, all_clean fs h.1)

-- a call's line is cut into what the call is spelled by
pub fields_written : (c : LineCall) → BriefCall c → fields (written c) ≡ spelled c
fields_written c b =
    fields_spaced (command_name (command c)) (value_fields c) (text_neat (command c)).clean (all_clean (value_fields c) (values_neat c b))

trailed_short : (fs : List (List ℕ)) → AllNeat fs → length (trailed fs) ≤ 12 * length fs
trailed_short [] h = omega arith
trailed_short (f ∷ fs) h =
    omega (arith, length-append f (trailed fs), h.0.short, trailed_short fs h.1)

few : (k : Command) → arity k ≤ 9
few commands.Day = omega arith
few commands.List = omega arith
few commands.Bell = omega arith
few commands.Trade = omega arith
few commands.Auction = omega arith
few commands.Leg = omega arith
few commands.Spread = omega arith
few commands.Quote = omega arith
few commands.Theory = omega arith
few commands.Ruling = omega arith
few commands.Settle = omega arith

-- no call's line has more than 200 bytes
pub written_short : (c : LineCall) → BriefCall c → length (written c) ≤ 200
written_short c b =
    omega (
      arith,
      length-append (command_name (command c)) (trailed (value_fields c)),
      (text_neat (command c)).short,
      trailed_short (value_fields c) (values_neat c b),
      values_count c b,
      few (command c),
    )
