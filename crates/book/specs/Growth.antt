-- Figures stay within their bounds as entries enter them: what both makes of book need.
use Rattle.std.proofs.Common.{◌≡◌, ℕ, ◌+◌, ◌*◌, ◌≤◌, Bool, true, cond, ◌&&◌, leb, ℤ, pos, ◌+ℤ◌, ◌*ℤ◌, nat_abs, ◌≤ℤ◌, Some, None, Option, refl, ap, ◌∙◌, arith}
use lib.Signed.{le_z}
use Rattle.std.proofs.Math.Bool.{and-true}
use Rattle.std.proofs.lemmas.Int.{ints}
use Rattle.std.proofs.lemmas.Bool.{and_parts, and_from, cond_both, leb-true, le-leb}
use Rattle.book.specs.Bounds.{bounded, last_if, sides_lawful, sums_within}
use Rattle.book.specs.Entries.{kind_lawful, lots_lawful, price_lawful, spread_lawful}
use Rattle.book.specs.Figures.{concerns, empty, entered_if, entered_in, latest, with_entry, roomy, sound, traded, with_auction}
use Rattle.book.specs.declared.entries.Entry.{Entry}
use Rattle.book.specs.declared.entries.Kind.{Kind}
use Rattle.book.specs.declared.entries.Kind.TheVariants.{Trade, Auction, Leg, Spread, Quote}
use Rattle.book.specs.declared.figures.Figures.{Figures}
use Rattle.book.specs.declared.figures.Last.{Last}
use Rattle.book.specs.Limits.{worth_by_lots}
use Rattle.book.specs.Orders.{le_from, le_test}

-- what holds of the old value and of the new one holds of the later
later_of_both : {V : Type 0} (test : V → Bool) (o : Option (Last V)) (t : ℤ) (v : V) → last_if test o ≡ true → test v ≡ true → last_if test (latest o t v) ≡ true
later_of_both test None t v h k = k
later_of_both test (Some o) t v h k =
    cond_both (le_z o.stamp t) (Some (record { stamp = t; value = v })) (Some o) (λ l. last_if test l ≡ true) (λ e. k) (λ e. h)

-- the parts of the bounds
pub record Parts (n : ℕ) (f : Figures) : Type 0 where
  pub lots_from : pos 0 ≤ℤ f.lots
  pub lots_to : f.lots ≤ℤ pos (n * 100000)
  pub money_bound : nat_abs f.money ≤ nat_abs f.lots * 1000000000
  pub trade : last_if price_lawful f.trade ≡ true
  pub auction : last_if price_lawful f.auction ≡ true
  pub spread : last_if spread_lawful f.spread ≡ true
  pub quote : last_if sides_lawful f.quote ≡ true

pub parts : (n : ℕ) (f : Figures) → bounded n f ≡ true → Parts n f
parts n f h =
    let prices = last_if price_lawful f.trade && last_if price_lawful f.auction in
    let others = last_if spread_lawful f.spread && last_if sides_lawful f.quote in
    let both = and_parts (sums_within n f.lots f.money) (prices && others) h in
    let sums = and_parts (le_z (pos 0) f.lots && le_z f.lots (pos (n * 100000))) (leb (nat_abs f.money) (nat_abs f.lots * 1000000000)) both.0 in
    let lots = and_parts (le_z (pos 0) f.lots) (le_z f.lots (pos (n * 100000))) sums.0 in
    let each = and_parts prices others both.1 in
    let by_price = and_parts (last_if price_lawful f.trade) (last_if price_lawful f.auction) each.0 in
    let by_other = and_parts (last_if spread_lawful f.spread) (last_if sides_lawful f.quote) each.1 in
    record {
      lots_from = le_from (pos 0) f.lots lots.0;
      lots_to = le_from f.lots (pos (n * 100000)) lots.1;
      money_bound = leb-true (nat_abs f.money) (nat_abs f.lots * 1000000000) sums.1;
      trade = by_price.0;
      auction = by_price.1;
      spread = by_other.0;
      quote = by_other.1;
    }

bounded_of_parts : (n : ℕ) (f : Figures) → Parts n f → bounded n f ≡ true
bounded_of_parts n f p =
    and_from _ _
    (and_from _ _ (and_from _ _ (le_test (pos 0) f.lots p.lots_from) (le_test f.lots (pos (n * 100000)) p.lots_to)) (le-leb (nat_abs f.money) (nat_abs f.lots * 1000000000) p.money_bound))
    (and_from _ _ (and_from _ _ p.trade p.auction) (and_from _ _ p.spread p.quote))

-- the same figures, of more entries
of_more : (n k : ℕ) (f : Figures) → n ≤ k → Parts n f → Parts k f
of_more n k f h p =
    let lots_to = p.lots_to in
    record { lots_from = p.lots_from; lots_to = omega (arith, ints); money_bound = p.money_bound; trade = p.trade; auction = p.auction; spread = p.spread; quote = p.quote }

later : (n : ℕ) (f : Figures) → Parts n f → Parts (n + 1) f
later n f p = of_more n (n + 1) f (omega arith) p

abs_sum : (a b : ℤ) → nat_abs (a +ℤ b) ≤ nat_abs a + nat_abs b
abs_sum a b = omega (arith, ints)

abs_sum_up : (a b : ℤ) → pos 0 ≤ℤ a → pos 0 ≤ℤ b → nat_abs (a +ℤ b) ≡ nat_abs a + nat_abs b
abs_sum_up a b h k = omega (arith, ints)

lots_range : (n : ℤ) → lots_lawful n ≡ true → (pos 0 ≤ℤ n) × (n ≤ℤ pos 100000)
lots_range n h = (grind (arith, ints), grind (arith, ints))

parts_of_traded : (n : ℕ) (f : Figures) (t p l : ℤ) → price_lawful p ≡ true → lots_lawful l ≡ true → Parts n f → Parts (n + 1) (traded t p l f)
parts_of_traded n f t p l h k v =
    let range = lots_range l k in
    let low = range.0 in
    let high = range.1 in
    let lots_from = v.lots_from in
    let lots_to = v.lots_to in
    let money_bound = v.money_bound in
    let worth = worth_by_lots p l h k in
    let money = abs_sum f.money (p *ℤ l) in
    let lots = abs_sum_up f.lots l lots_from low in
    record {
      lots_from = omega (arith, ints);
      lots_to = omega (arith, ints);
      money_bound = rw lots (omega arith);
      trade = later_of_both price_lawful f.trade t p v.trade h;
      auction = v.auction;
      spread = v.spread;
      quote = v.quote;
    }

parts_of_auction : (n : ℕ) (f : Figures) (t p : ℤ) → price_lawful p ≡ true → Parts n f → Parts n (with_auction t p f)
parts_of_auction n f t p h v = record {
  lots_from = v.lots_from;
  lots_to = v.lots_to;
  money_bound = v.money_bound;
  trade = v.trade;
  auction = later_of_both price_lawful f.auction t p v.auction h;
  spread = v.spread;
  quote = v.quote;
}

parts_of_entry : (n : ℕ) (f : Figures) (k : Kind) (t : ℤ) → kind_lawful k ≡ true → Parts n f → Parts (n + 1) (with_entry k t f)
parts_of_entry n f (Trade p l) t h v =
    let both = and_parts (price_lawful p) (lots_lawful l) h in
    parts_of_traded n f t p l both.0 both.1 v
parts_of_entry n f (Auction p l) t h v =
    let both = and_parts (price_lawful p) (lots_lawful l) h in
    parts_of_traded n (with_auction t p f) t p l both.0 both.1 (parts_of_auction n f t p both.0 v)
parts_of_entry n f (Leg p l) t h v = later n f v
parts_of_entry n f (Spread d) t h v =
    let w = later n f v in
    record {
      lots_from = w.lots_from;
      lots_to = w.lots_to;
      money_bound = w.money_bound;
      trade = w.trade;
      auction = w.auction;
      spread = later_of_both spread_lawful f.spread t d w.spread h;
      quote = w.quote;
    }
parts_of_entry n f (Quote b a) t h v =
    let w = later n f v in
    record {
      lots_from = w.lots_from;
      lots_to = w.lots_to;
      money_bound = w.money_bound;
      trade = w.trade;
      auction = w.auction;
      spread = w.spread;
      quote = later_of_both sides_lawful f.quote t (record { bid = b; ask = a }) w.quote h;
    }

pub bounded_entered : (n s : ℕ) (x : ℤ × ℤ) (f : Figures) (e : Entry) → kind_lawful e.kind ≡ true → bounded n f ≡ true → bounded (n + 1) (entered_in s x f e) ≡ true
bounded_entered n s x f e h b =
    let p = parts n f b in
    cond_both (concerns s x e) (with_entry e.kind e.stamp f) f (λ g. bounded (n + 1) g ≡ true)
    (λ yes. bounded_of_parts (n + 1) _ (parts_of_entry n f e.kind e.stamp h p))
    (λ no. bounded_of_parts (n + 1) f (later n f p))

pub bounded_empty : (n : ℕ) → bounded n empty ≡ true
bounded_empty n = bounded_of_parts n empty (record { lots_from = omega (arith, ints); lots_to = omega (arith, ints); money_bound = omega arith; trade = refl; auction = refl; spread = refl; quote = refl })

-- a book has room for the sums of all its entries
pub roomy_from : (n : ℕ) (f : Figures) → bounded n f ≡ true → n ≤ 30000 → roomy f ≡ true
roomy_from n f b h =
    let p = parts n f b in
    let lots_from = p.lots_from in
    let lots_to = p.lots_to in
    let money_bound = p.money_bound in
    let lots : nat_abs f.lots ≤ 3000000000 = omega (arith, ints) in
    and_from _ _ (le-leb (nat_abs f.lots) 3000000000 lots) (le-leb (nat_abs f.money) 3000000000000000000 (omega arith))

-- a sound entry, where there is room, enters the figures that it concerns
pub enters : (s : ℕ) (x : ℤ × ℤ) (f : Figures) (e : Entry) → sound e ≡ true → roomy f ≡ true → entered_if s x f e ≡ entered_in s x f e
enters s x f e ok room =
    ap (λ b. cond (concerns s x e && b) (with_entry e.kind e.stamp f) f) (and_from (sound e) (roomy f) ok room)
    ∙ ap (λ b. cond b (with_entry e.kind e.stamp f) f) (and-true (concerns s x e))
