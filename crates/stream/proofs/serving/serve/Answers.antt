use Rattle.std.proofs.Common.{◌≡◌, ◌≤◌, [], length, take, refl, sym, ap, subst, arith}
use Rattle.std.proofs.KnownBytes.{Keeps-refl}
use Rattle.std.proofs.lemmas.List.{length-take}
use Rattle.std.proofs.lemmas.Result.{on_err_weaker, on_ok_weaker}
use Rattle.stream.specs.Held.{View, at_first}
use Rattle.stream.proofs.Whole.{Reached, reached_more, reached_none, served_all, served_in_piece, served_so_far, served_to_end}
use Rattle.stream.proofs.Results.{on_err}
use Rattle.stream.proofs.serving.serve.Goals as goal

pub loop-init : goal.loop-init
loop-init g c =
    let a : View = at_first (g.W.Write.contents c.args.output.now) (g.B.Book.meaning c.args.book.now) in
    let x = g.R.Read.remaining c.args.input.now in
    record {
      reached = subst (λ (b : View). Reached x x a b) (sym (c.new-session.ensures.first (g.W.Write.contents c.args.output.now) (g.B.Book.meaning c.args.book.now))) (reached_none x a refl);
      working = c.new-session.ensures.working;
    }

pub loop-preserved : goal.loop-preserved
loop-preserved g c = record {
  reached = reached_more _ _ _ _ _ _ _ c.loop.invariant.reached c.in_ok-n.ensures.read c.in_ok-take_piece.ensures.taken;
  working = c.in_ok-take_piece.ensures.ends;
}

pub returns-in_err-n-clause-failed : goal.returns-in_err-n-clause-failed
returns-in_err-n-clause-failed g c = on_err c.from_residual.result (served_so_far _ _ _ _ _ _ c.loop.invariant.reached c.in_err-n.ensures.kept)

pub returns-then-n-eq0-clause-served : goal.returns-then-n-eq0-clause-served
returns-then-n-eq0-clause-served g c =
    let none : take c.in_ok-n.n c.next_piece.new.piece ≡ [] = ap (λ n. take n c.next_piece.new.piece) c.if-n-eq0.true in
    on_ok_weaker c.finish.result
    (served_all _ _ _ _ _ _ _ _ c.loop.invariant.reached c.in_ok-n.ensures.read none (c.in_ok-n.ensures.end c.if-n-eq0.true))
    c.finish.ensures.finished

pub returns-then-n-eq0-clause-failed : goal.returns-then-n-eq0-clause-failed
returns-then-n-eq0-clause-failed g c =
    let none : take c.in_ok-n.n c.next_piece.new.piece ≡ [] = ap (λ n. take n c.next_piece.new.piece) c.if-n-eq0.true in
    on_err_weaker c.finish.result
    (λ x. served_to_end _ _ _ _ _ _ _ _ c.loop.invariant.reached c.in_ok-n.ensures.read none (c.in_ok-n.ensures.end c.if-n-eq0.true) x.few x.is_so)
    (c.finish.ensures.failed c.loop.invariant.working)

pub returns-in_err-take_piece-clause-failed : goal.returns-in_err-take_piece-clause-failed
returns-in_err-take_piece-clause-failed g c =
    let x = c.in_err-take_piece.ensures.failed c.loop.invariant.working in
    let short : length (take c.in_ok-n.n c.next_piece.new.piece) ≤ 8192 = omega (arith, c.in_ok-n.ensures.within, length-take c.in_ok-n.n c.next_piece.new.piece) in
    on_err c.from_residual-in_err-take_piece.result (served_in_piece _ _ _ _ _ _ _ _ x.0 c.loop.invariant.reached c.in_ok-n.ensures.read short x.1.few x.1.is_so)

pub returns-clause-failed : goal.returns-clause-failed
returns-clause-failed g c = served_so_far _ _ _ _ _ _ c.loop.invariant.reached (Keeps-refl (g.R.Read.remaining c.loop.input))
