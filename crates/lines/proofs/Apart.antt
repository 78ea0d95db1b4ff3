-- The names of the commands tell them apart, and no call's writing begins another's.
use Rattle.std.proofs.Common.{◌≡◌, ℕ, suc, ◌+◌, cond, eqb, List, [], ◌∷◌, ◌++◌, length, get_or, sym, refl, ap, ◌∙◌, arith, length-append}
use Rattle.lines.specs.declared.line_calls.LineCall.{LineCall}
use Rattle.lines.specs.declared.names.Command.{Command}
use Rattle.lines.specs.declared.names.Command.TheVariants as commands
use Rattle.lines.specs.Names.{command_name}
use Rattle.lines.specs.Spelled.{BriefCall, command, spelled, value_fields}
use Rattle.lines.proofs.Made.{Sort, Tuple, made, sorts, tuple_spelt}

-- the command of a name, by its first two bytes
abbrev decode : List ℕ → Command
decode f =
    cond (eqb (get_or f 0 0) 100) commands.Day
    (cond (eqb (get_or f 0 0) 98) commands.Bell
    (cond (eqb (get_or f 0 0) 97) commands.Auction
    (cond (eqb (get_or f 0 0) 113) commands.Quote
    (cond (eqb (get_or f 0 0) 114) commands.Ruling
    (cond (eqb (get_or f 1 0) 105) commands.List
    (cond (eqb (get_or f 1 0) 104) commands.Theory
    (cond (eqb (get_or f 1 0) 112) commands.Spread
    (cond (eqb (get_or f 1 0) 114) commands.Trade (cond (eqb (get_or f 0 0) 108) commands.Leg commands.Settle)))))))))

decode_text : (k : Command) → decode (command_name k) ≡ k
decode_text commands.Day = refl
decode_text commands.List = refl
decode_text commands.Bell = refl
decode_text commands.Trade = refl
decode_text commands.Auction = refl
decode_text commands.Leg = refl
decode_text commands.Spread = refl
decode_text commands.Quote = refl
decode_text commands.Theory = refl
decode_text commands.Ruling = refl
decode_text commands.Settle = refl

-- two commands have two names
pub text_apart : (j k : Command) → command_name j ≡ command_name k → j ≡ k
text_apart j k e = sym (decode_text j) ∙ ap decode e ∙ decode_text k

-- how many values a command has
abbrev pub arity : Command → ℕ
arity k = length (sorts k)

tuple_count : (ss : List Sort) (v : Tuple ss) → length (tuple_spelt ss v) ≡ length ss
tuple_count [] v = refl
tuple_count (s ∷ ss) v = ap suc (tuple_count ss v.1)

pub values_count : (c : LineCall) → BriefCall c → length (value_fields c) ≡ arity (command c)
values_count c b = let m = made c b in ap length (sym m.2) ∙ tuple_count (sorts (command c)) m.0

pub same_command : (c : LineCall) (k : Command) (rest : List (List ℕ)) → spelled c ≡ command_name k ∷ rest → command c ≡ k
same_command c k rest e = text_apart (command c) k (ap (λ fs. get_or fs 0 []) e)

-- no call's writing is the front of a longer one
pub front_free : (c d : LineCall) → BriefCall c → BriefCall d → (f : List ℕ) (more : List (List ℕ)) → spelled c ≡ spelled d ++ (f ∷ more) → ⊥
front_free c d b h f more e =
    let k : command c ≡ command d = same_command c (command d) (value_fields d ++ (f ∷ more)) e in
    let n : arity (command c) ≡ arity (command d) = ap arity k in
    let l : length (spelled c) ≡ length (spelled d) + length (f ∷ more) = ap length e ∙ length-append (spelled d) (f ∷ more) in
    omega (arith, values_count c b, values_count d h)
