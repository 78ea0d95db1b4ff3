use Rattle.stream.proofs.sessions.Session.new.Goals as goal

pub returns-clause-first : goal.returns-clause-first
returns-clause-first c = λ contents m i. record {
  contents = contents;
  unsent = c.new-3.ensures i;
  desk_state = c.new.ensures m i;
  held = c.new-2.ensures i;
}
