-- A stepped ladder's bands are checked one after the other: what is known on the way, and at the end.
use Rattle.std.proofs.Common.{◌≡◌, ℕ, ◌+◌, ◌<◌, List, [], ◌∷◌, ◌++◌, map, length, get_or, take, drop, set, None, sym, ap, ◌∙◌}
use Rattle.std.proofs.lemmas.List.{at_drop_more, take_more, take_more_set, map_push}
use Rattle.ladders.specs.Bands.{described, band_fault, later_fault}
use Rattle.ladders.specs.Faults.{or_else}
use Rattle.ladders.specs.declared.bands.Band.{Band}
use Rattle.ladders.specs.declared.bands.LaterBand.{LaterBand}

-- ---- one band more: a₀ is the first band, a the one before place i

-- where the band at i has none, a fault of the rest is one of what is left after it
pub sound_band : (a₀ a : Band) (rest : List Band) (i : ℕ) (d : Band) → i < length rest → later_fault a₀ rest ≡ later_fault a (drop i rest) → band_fault a (get_or rest i d) ≡ None → later_fault a₀ rest ≡ later_fault (get_or rest i d) (drop (i + 1) rest)
sound_band a₀ a rest i d h inv e =
    inv ∙ at_drop_more (later_fault a) rest i d h ∙ ap (λ o. or_else o (later_fault (get_or rest i d) (drop (i + 1) rest))) e

pub one_more : (later : List LaterBand) (rest : List Band) (i : ℕ) (s : LaterBand) (d : Band) → i < length later → i < length rest → map described (take i later) ≡ take i rest → described s ≡ get_or rest i d → map described (take (i + 1) (set later i s)) ≡ take (i + 1) rest
one_more later rest i s d h k inv e =
    ap (map described) (take_more_set later i s h)
    ∙ map_push described (take i later) s
    ∙ ap (λ xs. xs ++ (described s ∷ [])) inv
    ∙ ap (λ x. take i rest ++ (x ∷ [])) e
    ∙ sym (take_more rest i d k)
