-- Runs: one call after the other.
use Rattle.std.specs.Prelude.{ℕ, Bool, cond, List, [], ◌∷◌, ℤ, fold}
use Rattle.calls.specs.Worlds.{World, is_taken, after_call}
use Rattle.calls.specs.declared.call.Call.{Call}

abbrev pub after_run : ℕ → (ℕ → ℤ → Bool) → List Call → World → World
after_run ladders lawful calls w = fold (λ v c. after_call ladders lawful c v) w calls

-- the calls that were not refused, in their order
abbrev pub calls_taken : ℕ → (ℕ → ℤ → Bool) → List Call → World → List Call
calls_taken ladders lawful [] w = []
calls_taken ladders lawful (c ∷ calls) w =
    let more = calls_taken ladders lawful calls (after_call ladders lawful c w) in
    cond (is_taken ladders lawful c w) (c ∷ more) more
