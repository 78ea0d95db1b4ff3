use Rattle.std.proofs.Common.{take, w64, refl, rules}
use Rattle.std.proofs.lemmas.Int.{to_z-of_z}
use Rattle.ladders.specs.Prices.{within}
use Rattle.ladders.specs.Rounding.{AnswersWhere, Above}
use Rattle.ladders.specs.InSet.{by_ladder, above_itself}
use Rattle.ladders.proofs.sets.SetOfLadderSet.above.Goals as goal

pub returns : goal.returns
returns g c =
    let s = c.args.self.now in
    let v = to_z-of_z w64 c.args.v c.ranges.v in
    by_ladder g.L.Ladder.holds (λ P. AnswersWhere (within c.args.v) (Above P c.args.v) c.map_or_else.result) (take s.count s.ladders) c.args.ladder c.ladder.result _ _ c.ladder.ensures c.map_or_else.ensures
    (λ none. above_itself _ (λ _. refl) c.args.v c.map_or_else.result (search rules))
    (λ l some. search rules)
