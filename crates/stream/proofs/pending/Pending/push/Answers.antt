use Rattle.std.proofs.Common.{◌≡◌, ◌+◌, ◌-◌, ◌++◌, ◌≤◌, length, take, ap, ◌∙◌, rules, arith}
use Rattle.std.proofs.lemmas.List.{length-take-le}
use Rattle.std.proofs.lemmas.Slice.{take-put_mid}
use Rattle.stream.proofs.Cutting.{held_pushed}
use Rattle.stream.proofs.pending.Pending.push.Goals as goal

pub returns : goal.returns
returns c =
    let p = c.args.self.now in
    let bytes = c.args.bytes.now in
    let n = c.min-n.result in
    let new = c.copy_from_slice.new.self in
    let front = take p.len p.bytes in
    let size : length p.bytes ≡ 201 = search rules in
    let within : p.len ≤ length p.bytes = omega arith in
    let all : n ≤ length bytes = let least = c.min-n.ensures in omega arith in
    let added : length new ≡ n = ap length c.copy_from_slice.ensures.after ∙ length-take-le n bytes all in
    take-put_mid p.len (p.len + n - p.len) p.bytes new (p.len + n) (omega arith) within
    ∙ ap (λ ys. front ++ ys) c.copy_from_slice.ensures.after
    ∙ ap (λ m. front ++ take m bytes) c.min-n.ensures
    ∙ held_pushed front bytes p.len (length-take-le p.len p.bytes within) (omega arith)
