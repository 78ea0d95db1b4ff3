use Rattle.std.proofs.Common.{sym, ap, ◌∙◌}
use Rattle.std.proofs.lemmas.List.{at_drop_all}
use Rattle.house.specs.Houses.{set_of}
use Rattle.calls.specs.Worlds.{world}
use Rattle.runs.specs.ByCalls.{entries}
use Rattle.runs.specs.Runs.{after_run, calls_taken}
use Rattle.book.specs.Takings.{with_all_stored}
use Rattle.runs.proofs.StoredEntries.{made_next, stored_next}
use Rattle.runs.proofs.ToldRuns.{told_from_new}
use Rattle.runs.proofs.running.run.Goals as goal

pub loop-call-preserved : goal.loop-call-preserved
loop-call-preserved g c =
    let now = c.loop-call in
    let calls = c.args.calls.now in
    let set = now.invariant.set in
    let size = g.L.LadderSet.size (set_of c.args.house.now) in
    let lawful = g.L.LadderSet.lawful (set_of c.args.house.now) in
    let w = world now.house (g.B.Book.meaning now.book) in
    let memory = g.B.Book.memory now.book in
    let few = c.loop-call-test.true in
    let same_size = ap g.L.LadderSet.size set in
    let same_prices = ap g.L.LadderSet.lawful set in
    record {
      set = c.perform.ensures.set ∙ set;
      after = made_next size lawful _ _ _ calls now.call-index w _ _ same_size same_prices few c.perform.ensures.after now.invariant.after;
      memory = stored_next g.B.Book.with_stored size lawful _ _ _ calls now.call-index w _ memory _ _ same_size same_prices few c.perform.ensures.after c.perform.ensures.memory now.invariant.memory;
    }

pub returns-clause-after : goal.returns-clause-after
returns-clause-after g c =
    let calls = c.args.calls.now in
    let size = g.L.LadderSet.size (set_of c.args.house.now) in
    let lawful = g.L.LadderSet.lawful (set_of c.args.house.now) in
    let now = world c.loop-call.house (g.B.Book.meaning c.loop-call.book) in
    sym (at_drop_all (λ cs. after_run size lawful cs now) calls c.loop-call.call-index c.loop-call-test.false) ∙ c.loop-call.invariant.after

pub returns-clause-told : goal.returns-clause-told
returns-clause-told g c =
    let size = g.L.LadderSet.size (set_of c.args.house.now) in
    let lawful = g.L.LadderSet.lawful (set_of c.args.house.now) in
    let before = world c.args.house.now (g.B.Book.meaning c.args.book.now) in
    λ d k. told_from_new d k size lawful c.args.calls.now before _ (returns-clause-after g c)

pub returns-clause-memory : goal.returns-clause-memory
returns-clause-memory g c =
    let calls = c.args.calls.now in
    let size = g.L.LadderSet.size (set_of c.args.house.now) in
    let lawful = g.L.LadderSet.lawful (set_of c.args.house.now) in
    let now = world c.loop-call.house (g.B.Book.meaning c.loop-call.book) in
    let memory = g.B.Book.memory c.loop-call.book in
    let none = at_drop_all (λ cs. with_all_stored g.B.Book.with_stored now.book.count (entries (calls_taken size lawful cs now)) memory) calls c.loop-call.call-index c.loop-call-test.false in
    sym none ∙ c.loop-call.invariant.memory
