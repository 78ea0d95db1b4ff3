use Rattle.std.proofs.Common.{◌≡◌, [], take, refl, ap, arith}
use Rattle.stream.specs.Sessions.{pending_bytes, unsent_bytes}
use Rattle.stream.proofs.Fronts.{front_all, front_kept}
use Rattle.stream.proofs.Results.{on_err, on_ok}
use Rattle.stream.proofs.sessions.Session.send.Goals as goal

pub returns-clause-flushed : goal.returns-clause-flushed
returns-clause-flushed g c =
    let none : unsent_bytes c.send.new.self ≡ [] = ap (λ n. take n c.send.new.self.bytes) c.in_ok-send.ensures.empty in
    on_ok c.flush_writer.result
    (λ m. record {
      answers = record {
        written = front_kept _ _ _ _ _ (front_all _ _ _ _ none c.in_ok-send.ensures.all) c.flush_writer.ensures.kept;
        desk_state = refl;
        held = refl;
      };
      sent = none;
    })

pub returns-clause-failed : goal.returns-clause-failed
returns-clause-failed g c =
    on_err c.flush_writer.result
    (λ m. record {
      lost = [];
      held = pending_bytes c.args.self.now.pending;
      few = omega arith;
      is_so = record {
        written = front_kept _ _ _ _ _ (front_all _ _ _ _ refl c.in_ok-send.ensures.all) c.flush_writer.ensures.kept;
        desk_state = refl;
        held = refl;
      };
    })
