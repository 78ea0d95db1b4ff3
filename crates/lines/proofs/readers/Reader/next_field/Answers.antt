use Rattle.std.proofs.Common.{◌≡◌, ◌+◌, ◌-◌, ◌<◌, ◌≤◌, length, drop, refl, ◌∙◌, arith}
use Rattle.std.proofs.lemmas.List.{length-drop, length-take-le}
use Rattle.lines.proofs.Cuts.{left_cut}
use Rattle.lines.proofs.readers.Reader.next_field.Goals as goal

pub returns-clause-next : goal.returns-clause-next
returns-clause-next c =
    let at = c.args.self.now.at in
    let line = c.args.self.now.line.now in
    let end = c.field_end-end.result in
    let w : at ≤ length line = c.args.self.now.within in
    let l : at < length line = omega arith in
    let d : length (drop (at + 1) line) ≡ length line - (at + 1) = length-drop (at + 1) line in
    (left_cut line at l ∙ c.field_end-end.ensures.cut, refl, omega (arith, length-take-le (end - (at + 1)) (drop (at + 1) line) (omega arith)))
