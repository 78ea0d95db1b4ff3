-- The codes of the table stand for the rows in letters.
use Rattle.std.proofs.Common.{◌≡◌, ℕ, zero, suc, ◌≤◌, true, leb, List, [], ◌∷◌, length, map, get_or, Some, None, Option, sym, refl, ap, ◌∙◌, subst, arith}
use Rattle.std.proofs.Math.ListN.{get_or-map}
use Rattle.std.proofs.lemmas.Bool.{leb-true}
use Rattle.rows.specs.Codes.{at, code_at, codes_of, decoded}
use Rattle.rows.specs.RowRules.{PlaceLawful, RowLawful}
use Rattle.rows.specs.Rows.{row}
use Rattle.rows.specs.declared.families.Family.{Family}
use Rattle.rows.specs.declared.families.Family.TheVariants.{LongBond, FollowingBond, OtherBond, MiniBond, ThreeMonthRate, FrontIndex, LaterIndex, CopiedIndex, TheoryIndex, ForeignIndex, DeliveredCommodity, CashCommodity, DeliveredGrain, NearOption, OtherOption}
use Rattle.rows.specs.declared.places.Choice.{Choice}
use Rattle.rows.specs.declared.places.Choice.TheVariants.{Close, LastDay, QuarterEnd, Morning}
use Rattle.rows.specs.declared.places.Place.{Place}
use Rattle.rows.proofs.RowTest.{row_lawful}

-- a row on so many places, the last of them empty
abbrev padded : ℕ → List Place → List (Option Place)
padded zero ps = []
padded (suc n) [] = None ∷ padded n []
padded (suc n) (p ∷ ps) = Some p ∷ padded n ps

-- what the four rows of a family, as they stand in the table, have to stand for, which the checker computes
abbrev Told : Family → Choice → Type 0
Told f c = (map decoded (codes_of f c) ≡ padded 6 (row f c)) × (leb (length (row f c)) 6 ≡ true)

abbrev AllTold : Family → Type 0
AllTold f = Told f Close × Told f LastDay × Told f QuarterEnd × Told f Morning

all_told : (f : Family) → AllTold f
all_told LongBond = ((refl, refl), (refl, refl), (refl, refl), (refl, refl))
all_told FollowingBond = ((refl, refl), (refl, refl), (refl, refl), (refl, refl))
all_told OtherBond = ((refl, refl), (refl, refl), (refl, refl), (refl, refl))
all_told MiniBond = ((refl, refl), (refl, refl), (refl, refl), (refl, refl))
all_told ThreeMonthRate = ((refl, refl), (refl, refl), (refl, refl), (refl, refl))
all_told FrontIndex = ((refl, refl), (refl, refl), (refl, refl), (refl, refl))
all_told LaterIndex = ((refl, refl), (refl, refl), (refl, refl), (refl, refl))
all_told CopiedIndex = ((refl, refl), (refl, refl), (refl, refl), (refl, refl))
all_told TheoryIndex = ((refl, refl), (refl, refl), (refl, refl), (refl, refl))
all_told ForeignIndex = ((refl, refl), (refl, refl), (refl, refl), (refl, refl))
all_told DeliveredCommodity = ((refl, refl), (refl, refl), (refl, refl), (refl, refl))
all_told CashCommodity = ((refl, refl), (refl, refl), (refl, refl), (refl, refl))
all_told DeliveredGrain = ((refl, refl), (refl, refl), (refl, refl), (refl, refl))
all_told NearOption = ((refl, refl), (refl, refl), (refl, refl), (refl, refl))
all_told OtherOption = ((refl, refl), (refl, refl), (refl, refl), (refl, refl))

told : (f : Family) (c : Choice) → Told f c
told f Close = (all_told f).0
told f LastDay = (all_told f).1
told f QuarterEnd = (all_told f).2
told f Morning = (all_told f).3

pub row_short : (f : Family) (c : Choice) → length (row f c) ≤ 6
row_short f c = leb-true (length (row f c)) 6 (told f c).1

padded_at : (n : ℕ) (ps : List Place) (k : ℕ) → length ps ≤ n → get_or (padded n ps) k None ≡ at ps k
padded_at zero [] k h = refl
padded_at zero (p ∷ ps) k h = absurd (omega arith)
padded_at (suc n) [] zero h = refl
padded_at (suc n) [] (suc k) h = padded_at n [] k (omega arith)
padded_at (suc n) (p ∷ ps) zero h = refl
padded_at (suc n) (p ∷ ps) (suc k) h = padded_at n ps k (omega arith)

-- the codes of a row in the table stand for its places, and for none past its end
pub codes_tell : (f : Family) (c : Choice) (k : ℕ) → decoded (code_at f c k) ≡ at (row f c) k
codes_tell f c k =
    sym (get_or-map decoded (codes_of f c) k 0)
    ∙ ap (λ os. get_or os k None) (told f c).0
    ∙ padded_at 6 (row f c) k (row_short f c)

past : (ps : List Place) (k : ℕ) → length ps ≤ k → at ps k ≡ None
past [] k h = refl
past (p ∷ ps) zero h = absurd (omega arith)
past (p ∷ ps) (suc k) h = past ps k (omega arith)

pub past_end : (f : Family) (c : Choice) (k : ℕ) → 6 ≤ k → at (row f c) k ≡ None
past_end f c k h = let short = row_short f c in past (row f c) k (omega (arith, h))

-- ---- what is handed out of a row is lawful

pub handed_out_lawful : (f : Family) (c : Choice) (handed : ℕ → Option Place) → ((k : ℕ) → handed k ≡ decoded (code_at f c k)) → RowLawful handed
handed_out_lawful f c handed is = subst RowLawful (λ i k. sym (is k) i) (row_lawful f c)

pub place_lawful : (f : Family) (c : Choice) (k : ℕ) (o : Option Place) → o ≡ at (row f c) k → PlaceLawful (λ j. decoded (code_at f c j)) k o
place_lawful f c k o is = subst (PlaceLawful (λ j. decoded (code_at f c j)) k) (codes_tell f c k ∙ sym is) (row_lawful f c k)
