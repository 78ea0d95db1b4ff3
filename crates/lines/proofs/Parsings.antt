-- What parsing a line comes to, by what was read of its first field and of the others.
use Rattle.std.proofs.Common.{◌≡◌, ℕ, ◌+◌, ◌<◌, ◌≤◌, List, [], ◌∷◌, ◌++◌, length, Ok, Err, Result, sym, refl, ap, ◌∙◌, inl, arith}
use Rattle.house.specs.declared.phases.Bell.TheVariants as bells
use Rattle.calls.specs.declared.call.Call.TheVariants as house_calls
use Rattle.lines.specs.declared.line_calls.LineCall.{LineCall}
use Rattle.lines.specs.declared.line_calls.LineCall.TheVariants as line_calls
use Rattle.lines.specs.declared.faults.NotRead.{NotRead}
use Rattle.lines.specs.declared.names.Command.{Command}
use Rattle.lines.specs.Fields.{fields, trailed}
use Rattle.lines.specs.Names.{command_name}
use Rattle.lines.specs.Places.{GoesOn, Lacks, Whole, Breaks, next_start, Missed, ReadBy}
use Rattle.lines.specs.Spelled.{BriefCall, Named, Parsed, command, spelled, value_fields}
use Rattle.lines.proofs.Apart.{front_free, same_command}
use Rattle.lines.proofs.Cuts.{joined}
use Rattle.lines.proofs.Missing.{breaks_to}
use Rattle.lines.proofs.Neat.{fields_written, written_short}
use Rattle.lines.proofs.OnePlace.{refused}

-- ---- the values after a command, and the whole line

goes_named : (k : Command) (good : List (List ℕ)) (f : List ℕ) → GoesOn value_fields (Named k) good f → GoesOn spelled BriefCall (command_name k ∷ good) f
goes_named k good f g =
    record {
      meant = g.meant;
      holds = g.holds.brief;
      more = g.more;
      writes = ap (λ j. command_name j ∷ value_fields g.meant) g.holds.named ∙ ap (λ xs. command_name k ∷ xs) g.writes;
    }

goes_unnamed : (k : Command) (good : List (List ℕ)) (f : List ℕ) → GoesOn spelled BriefCall (command_name k ∷ good) f → GoesOn value_fields (Named k) good f
goes_unnamed k good f g =
    let e : command_name (command g.meant) ∷ value_fields g.meant ≡ command_name k ∷ (good ++ (f ∷ g.more)) = g.writes in
    let w : value_fields g.meant ≡ good ++ (f ∷ g.more) = cc in
    record {
      meant = g.meant;
      holds = record { brief = g.holds; named = same_command g.meant k (good ++ (f ∷ g.more)) g.writes };
      more = g.more;
      writes = w;
    }

whole_named : (k : Command) (good : List (List ℕ)) → Whole value_fields (Named k) good → Whole spelled BriefCall (command_name k ∷ good)
whole_named k good w =
    record {
      meant = w.meant;
      holds = w.holds.brief;
      writes = ap (λ j. command_name j ∷ value_fields w.meant) w.holds.named ∙ ap (λ xs. command_name k ∷ xs) w.writes;
    }

missed_named : (k : Command) (all left : List (List ℕ)) → all ≡ command_name k ∷ left → (q p : ℕ) → q ≡ 0 + (length (command_name k) + 1) → Missed value_fields (Named k) left q p → Missed spelled BriefCall all 0 p
missed_named k all left e q p n m =
    let b : Breaks value_fields (Named k) m.good m.rest (next_start m.good (0 + (length (command_name k) + 1))) p = rw (ap (next_start m.good) (sym n)) m.breaks in
    record {
      good = command_name k ∷ m.good;
      rest = m.rest;
      parts = e ∙ ap (λ xs. command_name k ∷ xs) m.parts;
      breaks =
          breaks_to value_fields (Named k) spelled BriefCall m.good (command_name k ∷ m.good) (goes_named k m.good) (goes_unnamed k m.good)
          (whole_named k m.good) m.rest (next_start m.good (0 + (length (command_name k) + 1))) p b;
    }

-- ---- a line of at most 200 bytes that is missed

pub parsed_missed : (line : List ℕ) (e : NotRead) → length line ≤ 200 → Missed spelled BriefCall (fields line) 0 e.place → Parsed line (Err e)
parsed_missed line e l m = (
  (λ c b w. refused spelled BriefCall front_free (fields line) 0 e.place m c b (ap fields w ∙ fields_written c b)),
  record { long = (λ h. absurd (omega arith)); short = (λ h. m) },
)

pub parsed_long : (line : List ℕ) (e : NotRead) → 200 < length line → e.place ≡ 200 → Parsed line (Err e)
parsed_long line e l p =
    ((λ c b w. omega (arith, ap length w, written_short c b)), record { long = (λ h. p); short = (λ h. absurd (omega arith)) })

-- some call has a first field
some_call : Lacks spelled BriefCall []
some_call =
    record {
      field = command_name (command (line_calls.Call (house_calls.Ring bells.Open)));
      goes = record { meant = line_calls.Call (house_calls.Ring bells.Open); holds = tt; more = value_fields (line_calls.Call (house_calls.Ring bells.Open)); writes = refl };
    }

-- the first field is no command's name
pub parsed_unknown : (line name : List ℕ) (left : List (List ℕ)) (e : NotRead) → length line ≤ 200 → fields line ≡ name ∷ left → ((k : Command) → Unit {0} → name ≡ command_name k → ⊥) → e.place ≡ 0 → Parsed line (Err e)
parsed_unknown line name left e l w none p =
    parsed_missed line e l
    (record {
      good = [];
      rest = name ∷ left;
      parts = w;
      breaks =
          inl (
            some_call,
            (λ g. let u : command_name (command g.meant) ∷ value_fields g.meant ≡ name ∷ g.more = g.writes in
                let v : name ≡ command_name (command g.meant) = cc in
                none (command g.meant) tt v),
            p,
          );
    })

-- the values of a command were read, or not
pub parsed_read : (line name : List ℕ) (left : List (List ℕ)) (k : Command) (q : ℕ) (r : Result LineCall NotRead) → length line ≤ 200 → fields line ≡ name ∷ left → name ≡ command_name k → q ≡ length name + 1 → ReadBy value_fields (Named k) left q r → Parsed line r
parsed_read line name left k q (Ok c) l w n e h =
    let t : name ≡ command_name (command c) = n ∙ ap command_name (sym h.0.named) in
    (h.0.brief, joined line name left w ∙ ap (λ f. f ++ trailed left) t ∙ ap (λ xs. command_name (command c) ++ trailed xs) h.1)
parsed_read line name left k q (Err e) l w n d h =
    parsed_missed line e l
    (missed_named k (fields line) left (w ∙ ap (λ f. f ∷ left) n) q e.place (omega (arith, d, ap length n)) h)
