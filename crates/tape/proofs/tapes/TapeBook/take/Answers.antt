use Rattle.std.proofs.Common.{ap, ◌∙◌}
use Rattle.book.specs.Ledgers.{admission}
use Rattle.tape.proofs.Stored.{stores}
use Rattle.tape.proofs.tapes.TapeBook.take.Goals as goal

pub invariant_of-self-clause-allowed : goal.invariant_of-self-clause-allowed
invariant_of-self-clause-allowed c =
    let t = c.args.self.now in
    let ok = c.in_ok-admit.ensures ∙ ap (λ d. admission d t.count c.places.result c.args.entry) c.day.ensures in
    (stores t.day t.slots.now t.count c.places.result c.args.entry t.held t.few t.allowed c.places.ensures ok).allowed

pub invariant_of-self-clause-held : goal.invariant_of-self-clause-held
invariant_of-self-clause-held c =
    let t = c.args.self.now in
    let ok = c.in_ok-admit.ensures ∙ ap (λ d. admission d t.count c.places.result c.args.entry) c.day.ensures in
    (stores t.day t.slots.now t.count c.places.result c.args.entry t.held t.few t.allowed c.places.ensures ok).held

pub returns-clause-after : goal.returns-clause-after
returns-clause-after c =
    let t = c.args.self.now in
    let ok = c.in_ok-admit.ensures ∙ ap (λ d. admission d t.count c.places.result c.args.entry) c.day.ensures in
    (stores t.day t.slots.now t.count c.places.result c.args.entry t.held t.few t.allowed c.places.ensures ok).after
