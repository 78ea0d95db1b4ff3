use Rattle.std.proofs.Common.{rules, length, sym, ◌∙◌, arith}
use Rattle.std.proofs.lemmas.Grind.{common_steps}
use Rattle.std.proofs.lemmas.List.{at_drop_all}
use Rattle.book.specs.Takings.{after_all, entries_taken, memory_after_all}
use Rattle.book.proofs.StoredTakings.{stored_next}
use Rattle.book.proofs.TakenEvidence.{evidence_of_taken}
use Rattle.book.proofs.takings.take_all.Goals as goal

pub returns-clause-handed : goal.returns-clause-handed
returns-clause-handed g c =
    let now = g.B.Book.meaning c.loop-e.book in
    let es = c.args.entries.now in
    let none = at_drop_all (λ ys. length (entries_taken now ys)) es c.loop-e.e-index c.loop-e-test.false in
    let count = c.loop-e.invariant.count in
    let after = sym (at_drop_all (after_all now) es c.loop-e.e-index c.loop-e-test.false) ∙ c.loop-e.invariant.after in
    record {
      count = omega arith;
      after = after;
      evidence = evidence_of_taken (g.B.Book.meaning c.args.book.now) now es after;
    }

pub returns-clause-memory : goal.returns-clause-memory
returns-clause-memory g c =
    let B = g.B.Book in
    sym (at_drop_all (λ ys. memory_after_all B.with_stored (B.meaning c.loop-e.book) ys (B.memory c.loop-e.book)) c.args.entries.now c.loop-e.e-index c.loop-e-test.false)
    ∙ c.loop-e.invariant.memory

pub loop-e-preserved : goal.loop-e-preserved
loop-e-preserved g c = record {
  few = search (rules, arith);
  after = grind (arith, common_steps);
  count = grind (arith, common_steps);
  memory = stored_next g.B.Book.with_stored _ c.args.entries.now c.loop-e.e-index _ _ _ _ _ c.loop-e-test.true c.take.ensures.after c.take.ensures.memory c.loop-e.invariant.memory;
}
