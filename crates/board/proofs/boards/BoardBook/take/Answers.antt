use Rattle.board.specs.LawfulTable.{table_is_lawful}
use Rattle.board.proofs.Takes.{takes}
use Rattle.board.proofs.boards.BoardBook.take.Goals as goal

pub invariant_of-self-clause-bounds : goal.invariant_of-self-clause-bounds
invariant_of-self-clause-bounds c =
    let b = c.args.self.now in
    let lawful = table_is_lawful b.day b.capacity b.count b.table.cells b.lawful_day b.most b.room b.bounds b.none_taken in
    (takes b.day _ b.capacity b.count _ _ b.table.cells c.enter_all.new.self.cells c.args.entry lawful c.day-day.ensures c.from.ensures c.from-2.ensures c.in_ok-admit.ensures c.enter_all.ensures).bounds

pub returns-clause-after : goal.returns-clause-after
returns-clause-after c =
    let b = c.args.self.now in
    let lawful = table_is_lawful b.day b.capacity b.count b.table.cells b.lawful_day b.most b.room b.bounds b.none_taken in
    (takes b.day _ b.capacity b.count _ _ b.table.cells c.enter_all.new.self.cells c.args.entry lawful c.day-day.ensures c.from.ensures c.from-2.ensures c.in_ok-admit.ensures c.enter_all.ensures).after
