use Rattle.book.specs.LawfulRecords.{sound_parts}
use Rattle.book.proofs.figures.Figures.enter_sound.Goals as goal

pub enter-requires-clause-kind : goal.enter-requires-clause-kind
enter-requires-clause-kind c = (sound_parts c.e.inside.entry c.e.invariant).1
