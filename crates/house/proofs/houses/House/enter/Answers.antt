use Rattle.std.proofs.Common.{◌≡◌, is_ok, Ok, Err, Result, sym, ap, ◌∙◌, ⊎_elim}
use Rattle.std.specs.Result.{IfErr}
use Rattle.std.proofs.lemmas.Bool.{both_ways}
use Rattle.book.specs.Ledgers.{Ledger, take_after, take_answer}
use Rattle.book.specs.declared.entries.Entry.{Entry}
use Rattle.book.specs.declared.faults.BookFault.{BookFault}
use Rattle.book.proofs.Taking.{taken_or_refused}
use Rattle.house.specs.Houses.{state}
use Rattle.house.proofs.Demands.{memory_moves, passed_on}
use Rattle.house.proofs.houses.House.enter.Goals as goal

-- a book that refuses an entry is as it was
as_it_was : (m : Ledger) (e : Entry) (f : BookFault) → Err f ≡ take_answer m e → take_after m e ≡ m
as_it_was m e f is = ⊎_elim (λ p. absurd (both_ways (is_ok (take_answer m e)) (ap is_ok (sym is)) p.0)) (λ p. p.1) (taken_or_refused m e)

-- what holds anyway holds of a refusal
anyway : {A E P : Type 0} (r : Result A E) → P → IfErr r (λ _. P)
anyway (Ok a) p = tt
anyway (Err e) p = p

pub returns-in_err-take-clause-refused : goal.returns-in_err-take-clause-refused
returns-in_err-take-clause-refused g c =
    anyway c.from_residual-in_err-take.result (c.take.ensures.after ∙ as_it_was (g.B.Book.meaning c.args.book.now) c.args.entry _ c.in_err-take.ensures.answer)

pub returns-in_err-take-clause-after : goal.returns-in_err-take-clause-after
returns-in_err-take-clause-after g c =
    let h = c.args.self.now in
    let on = passed_on (g.L.LadderSet.lawful h.set) c.day.result c.args.entry (state h) (g.B.Book.meaning c.args.book.now) c.day.ensures c.in_ok-pass.ensures in
    c.take.ensures.after ∙ on.1

pub returns-in_err-take-clause-memory : goal.returns-in_err-take-clause-memory
returns-in_err-take-clause-memory g c =
    let h = c.args.self.now in
    let m = g.B.Book.meaning c.args.book.now in
    let memory = g.B.Book.memory c.args.book.now in
    c.take.ensures.memory
    ∙ memory_moves (g.L.LadderSet.lawful h.set) c.day.result c.args.entry (state h) m (g.B.Book.with_stored memory m.count c.args.entry) memory c.day.ensures c.in_ok-pass.ensures

pub returns-clause-after : goal.returns-clause-after
returns-clause-after g c =
    let h = c.args.self.now in
    let on = passed_on (g.L.LadderSet.lawful h.set) c.day.result c.args.entry (state h) (g.B.Book.meaning c.args.book.now) c.day.ensures c.in_ok-pass.ensures in
    c.take.ensures.after ∙ on.1

pub returns-clause-memory : goal.returns-clause-memory
returns-clause-memory g c =
    let h = c.args.self.now in
    let m = g.B.Book.meaning c.args.book.now in
    let memory = g.B.Book.memory c.args.book.now in
    c.take.ensures.memory
    ∙ memory_moves (g.L.LadderSet.lawful h.set) c.day.result c.args.entry (state h) m (g.B.Book.with_stored memory m.count c.args.entry) memory c.day.ensures c.in_ok-pass.ensures
