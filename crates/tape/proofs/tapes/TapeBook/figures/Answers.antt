use Rattle.std.proofs.Common.{take, fold, ap, ◌∙◌}
use Rattle.book.specs.Figures.{empty, entered_if}
use Rattle.book.specs.LawfulRecords.{every_sound}
use Rattle.book.proofs.Folds.{same_fold}
use Rattle.tape.proofs.Stored.{few_stored}
use Rattle.tape.proofs.tapes.TapeBook.figures.Goals as goal

pub returns : goal.returns
returns c =
    let t = c.args.self.now in
    let es = take t.count t.slots.now in
    let s = c.args.series in
    c.scan.ensures ∙ ap (λ x. fold (entered_if s x) empty es) c.edges-edges.ensures ∙ same_fold s _ es (few_stored t.slots.now t.count t.held t.few) (every_sound t.day es t.lawful_day t.allowed)
