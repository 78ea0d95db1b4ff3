-- Relations between the same thing in two runs.
use Rattle.std.specs.Prelude.{Some, None, Option}

abbrev pub Relation : Type 0 → Type 1
Relation X = X → X → Type 0

-- both missing, or both there and related
abbrev pub Matched : {V : Type 0} → Relation V → Relation (Option V)
Matched R None None = Unit {0}
Matched R None (Some w) = ⊥
Matched R (Some v) None = ⊥
Matched R (Some v) (Some w) = R v w
