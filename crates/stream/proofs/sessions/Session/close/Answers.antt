use Rattle.std.proofs.Common.{◌≡◌, length, sym, ap, ◌∙◌, arith}
use Rattle.std.proofs.lemmas.Bool.Decides.{nat_tests}
use Rattle.std.proofs.lemmas.List.{nil_from_length}
use Rattle.std.proofs.lemmas.Result.{on_err_weaker, on_ok_weaker}
use Rattle.stream.specs.Sessions.{view_of}
use Rattle.stream.proofs.Pieces.{after_error_weaker, closed_line, closed_none}
use Rattle.stream.proofs.sessions.Session.close.Goals as goal

pub returns-then-is_empty-clause-closed : goal.returns-then-is_empty-clause-closed
returns-then-is_empty-clause-closed g c =
    let a = view_of c.args.self.now (g.W.Write.contents c.args.writer.now) (g.B.Book.meaning c.args.book.now) in
    let none : length c.line.result.now ≡ 0 = let test = c.if-is_empty.ensures in grind (arith, nat_tests) in
    closed_none a (sym c.line.ensures ∙ nil_from_length c.line.result.now none)

pub returns-clause-closed : goal.returns-clause-closed
returns-clause-closed g c =
    let a = view_of c.args.self.now (g.W.Write.contents c.args.writer.now) (g.B.Book.meaning c.args.book.now) in
    let b = view_of c.end_line.new.self (g.W.Write.contents c.end_line.new.writer) (g.B.Book.meaning c.end_line.new.book) in
    on_ok_weaker c.end_line.result
    (closed_line a b (λ none. let empty = ap length (c.line.ensures ∙ none) in let test = c.if-is_empty.ensures in grind (arith, nat_tests)))
    c.end_line.ensures.ended

pub returns-clause-failed : goal.returns-clause-failed
returns-clause-failed g c =
    let a = view_of c.args.self.now (g.W.Write.contents c.args.writer.now) (g.B.Book.meaning c.args.book.now) in
    on_err_weaker c.end_line.result
    (after_error_weaker _ (λ v. closed_line a v (λ none. let empty = ap length (c.line.ensures ∙ none) in let test = c.if-is_empty.ensures in grind (arith, nat_tests))))
    c.end_line.ensures.failed
