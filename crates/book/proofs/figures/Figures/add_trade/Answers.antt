use Rattle.std.proofs.Common.{◌≡◌, ◌+ℤ◌, ap, ◌∙◌, arith, w32, w64, to_z, of_z}
use Rattle.std.proofs.lemmas.Int.{ints, to_z-of_z}
use Rattle.book.specs.Figures.{latest}
use Rattle.book.specs.Limits.{lots_bound, room_for}
use Rattle.book.proofs.figures.Figures.add_trade.Goals as goal

pub returns : goal.returns
returns c =
    let f = c.args.self.now in
    let d = c.args.deal in
    let w = c.worth.result in
    let short : to_z w32 (of_z w32 c.short.result) ≡ d.price = omega (arith, ints) in
    let few = lots_bound d.lots d.sized in
    let bound = c.worth.ensures.bound in
    let room = room_for f c.requires in
    let lots_room = room.0 in
    let money_room = room.1 in
    let last : c.latest-self.result ≡ latest f.trade c.args.stamp d.price =
    c.latest-self.ensures ∙ ap (λ t. latest f.trade t (to_z w32 (of_z w32 c.short.result))) (to_z-of_z w32 c.args.stamp c.ranges.stamp) ∙ ap (latest f.trade c.args.stamp) short in
    let sum : to_z w64 (of_z w64 (to_z w64 (of_z w64 f.lots) +ℤ to_z w64 (of_z w64 d.lots))) ≡ f.lots +ℤ d.lots = omega (arith, ints) in
    let money : to_z w64 (of_z w64 (to_z w64 (of_z w64 f.money) +ℤ to_z w64 (of_z w64 w))) ≡ f.money +ℤ w = omega (arith, ints) in
    let all = money ∙ ap (λ x. f.money +ℤ x) c.worth.ensures.value in
    λ i. record { trade = last i; auction = f.auction; spread = f.spread; quote = f.quote; lots = sum i; money = all i }

pub overflow_add-self-2 : goal.overflow_add-self-2
overflow_add-self-2 c =
    let room = (room_for c.args.self.now c.requires).1 in
    let bound = c.worth.ensures.bound in
    omega (arith, ints)
