use Rattle.std.proofs.Common.{ℤ, nat_abs, ap, ◌∙◌, subst, w64}
use Rattle.std.proofs.lemmas.Int.{to_z-of_z}
use Rattle.house.specs.Houses.{state}
use Rattle.house.specs.Questions.{settle_answer}
use Rattle.house.specs.Reach.{AnswerInReach}
use Rattle.house.proofs.Determined.{one_answer}
use Rattle.house.proofs.Explained.{answer_explained}
use Rattle.house.proofs.OnPath.{answered_by_path}
use Rattle.house.proofs.houses.House.settle.Goals as goal

pub returns : goal.returns
returns g c =
    let s = state c.args.self.now in
    let m = g.B.Book.meaning c.args.book.now in
    let P = g.L.LadderSet.lawful c.args.self.now.set in
    let ed = c.args.edition in
    let n = c.args.series in
    let stated = c.answer_to.ensures.value ∙ ap (λ z. settle_answer P ed z s m) (to_z-of_z w64 n c.ranges.series) in
    record {
      answer = stated;
      path = answered_by_path P ed s m n c.answer_to.result stated;
      meaning = answer_explained P (g.met.L.LadderSet.dense c.args.self.now.set) ed s m c.args.self.now.listed.lawful n c.answer_to.result stated;
      one = one_answer;
      reach = subst (λ (z : ℤ). AnswerInReach (nat_abs z) c.answer_to.result) (to_z-of_z w64 n c.ranges.series) c.answer_to.ensures.reach;
    }
