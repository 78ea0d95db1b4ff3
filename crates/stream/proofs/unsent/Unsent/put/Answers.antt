use Rattle.std.proofs.Common.{◌++◌, arith}
use Rattle.std.proofs.lemmas.List.{length-append}
use Rattle.stream.proofs.Fronts.{front_more}
use Rattle.stream.proofs.Results.{on_err}
use Rattle.stream.proofs.unsent.Unsent.put.Goals as goal

pub returns-in_err-make_room-clause-front : goal.returns-in_err-make_room-clause-front
returns-in_err-make_room-clause-front g c =
    let x = c.in_err-make_room.ensures.front in
    on_err c.from_residual.result (x.0 ++ c.args.answer.now, omega (arith, length-append x.0 c.args.answer.now), front_more _ _ _ c.args.answer.now x.0 x.2)
