-- What holds at any result.
use Rattle.std.proofs.Common.{Ok, Err, Result}
use Rattle.std.specs.Result.{OnErr, OnOk}

pub on_ok : {T E P : Type 0} (r : Result T E) → P → OnOk r P
on_ok (Ok x) p = p
on_ok (Err e) p = tt

pub on_err : {T E P : Type 0} (r : Result T E) → P → OnErr r P
on_err (Ok x) p = tt
on_err (Err e) p = p
