use Rattle.std.proofs.Common.{◌≡◌, Bool, true, false, not, cond, List, [], ◌∷◌, take, ℤ, pos, refl, ap, ◌∙◌, rules, tests}
use Rattle.std.specs.Prelude.{int_lt, take_while, fold}
use Rattle.std.proofs.lemmas.List.Sums.{take_while-cons}
use Rattle.std.proofs.lemmas.Iterator.{YieldsList-from_slice}
use Rattle.std.proofs.lemmas.Iterator.Consumers.{fold_from_yields_List}
use Rattle.std.proofs.lemmas.Iterator.Search.{YieldsList-from_take_while}
use Rattle.ladders.specs.InBand.{at}
use Rattle.ladders.specs.declared.bands.LaterBand.{LaterBand}
use Rattle.ladders.specs.declared.ticks.Tick.{Tick}
use Rattle.ladders.proofs.stepping.SteppedLadder.tick_at.Goals as goal

-- whether a band does not begin over v
abbrev begun : ℤ → LaterBand → Bool
begun v b = not (int_lt v b.start)

last_begun : (t : Tick) (later : List LaterBand) (v : ℤ) → pos (fold (λ (k : Tick) (b : LaterBand). b.tick) t (take_while (begun v) later)).points ≡ at t later v
last_begun t [] v = refl
last_begun t (b ∷ bs) v =
    ap (λ (xs : List LaterBand). pos (fold (λ (k : Tick) (b : LaterBand). b.tick) t xs).points) (take_while-cons (begun v) b bs)
    ∙ elim (int_lt v b.start) as (λ x. pos (fold (λ (k : Tick) (b : LaterBand). b.tick) t (cond (not x) (b ∷ take_while (begun v) bs) [])).points ≡ cond x (pos t.points) (at b.tick bs v)) [
      | true ↦ refl
      | false ↦ last_begun b.tick bs v
    ]

pub returns : goal.returns
returns c =
    let l = c.args.self.now in
    let later = take l.count l.later in
    let v = c.args.v in
    ap (λ (t : Tick). pos t.points)
    (fold_from_yields_List _ (λ (k : Tick) (b : LaterBand). b.tick) l.first c.fold.result c.fold.ensures.ran
    (YieldsList-from_take_while _ (begun v) (YieldsList-from_slice later cc) c.take_while.ensures.closure c.take_while.ensures.done (λ x b q k. search (rules, tests)))
    (λ k x t q e. search rules))
    ∙ last_begun l.first later v
