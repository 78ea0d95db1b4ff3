-- Raised entries raise figures.
use Rattle.std.proofs.Common.{◌≡◌, ℕ, ◌+◌, ◌≤◌, Bool, true, false, cond, ◌&&◌, List, [], ◌∷◌, ℤ, pos, negsuc, ◌+ℤ◌, ◌*ℤ◌, ◌≤ℤ◌, Some, None, fold, Option, sym, refl, ap, subst, mul-le-mul_right, arith}
use lib.Signed.{le_z}
use borrow.Author.Differences.{up, down}
use Rattle.std.specs.List.{AllZip}
use Rattle.std.proofs.lemmas.Int.{ints}
use Rattle.std.proofs.lemmas.Bool.{and_parts, true≢false}
use Rattle.book.specs.Entries.{allowed, kind_lawful, lots_lawful, price_lawful}
use Rattle.book.specs.Figures.{concerns, empty, entered_in, is_series, latest, with_entry, traded, with_auction}
use Rattle.book.specs.Records.{every, figures_of}
use Rattle.book.specs.Windows.{edges, holds}
use Rattle.book.specs.declared.days.Day.{Day}
use Rattle.book.specs.declared.entries.Entry.{Entry}
use Rattle.book.specs.declared.entries.Kind.{Kind}
use Rattle.book.specs.declared.entries.Kind.TheVariants.{Trade, Auction, Leg, Spread, Quote}
use Rattle.book.specs.declared.figures.Figures.{Figures}
use Rattle.book.specs.declared.figures.Last.{Last}
use Rattle.book.specs.declared.figures.Sides.{Sides}
use Rattle.book.specs.Ranges.{allowed_kind}
use Rattle.runs.specs.PathEntries.{entries_on, on_path}
use Rattle.runs.specs.Raised.{EntryRaised, KindBy}
use Rattle.runs.specs.Relations.{Matched, Relation}
use Rattle.runs.proofs.PathFigures.{every_on_path, related_figures}

-- ---- figures raised

-- both missing, or the second no lower
abbrev pub ValueRaised : Relation (Option ℤ)
ValueRaised = Matched ◌≤ℤ◌

abbrev KindRaised : Relation Kind
KindRaised = KindBy ◌≤ℤ◌

pub record SidesRaised (q r : Sides) : Type 0 where
  pub bid : ValueRaised q.bid r.bid
  pub ask : ValueRaised q.ask r.ask

-- last figures of the same stamp, or none
abbrev pub LastMatched : {V : Type 0} → Relation V → Relation (Option (Last V))
LastMatched R o p = Matched (λ l m. (l.stamp ≡ m.stamp) × R l.value m.value) o p

pub record FiguresRaised (f g : Figures) : Type 0 where
  pub trade : LastMatched ◌≤ℤ◌ f.trade g.trade
  pub auction : LastMatched ◌≤ℤ◌ f.auction g.auction
  pub spread : f.spread ≡ g.spread
  pub quote : LastMatched SidesRaised f.quote g.quote
  pub lots : f.lots ≡ g.lots
  pub money : f.money ≤ℤ g.money

-- ---- one more entry

latest_matched : {V : Type 0} (R : Relation V) (o p : Option (Last V)) (t : ℤ) (v w : V) → R v w → LastMatched R o p
    → LastMatched R (latest o t v) (latest p t w)
latest_matched R None None t v w rise h = (refl, rise)
latest_matched R None (Some p) t v w rise h = absurd h
latest_matched R (Some o) None t v w rise h = absurd h
latest_matched R (Some o) (Some p) t v w rise h =
    subst (λ (c : Bool). LastMatched R (latest (Some o) t v) (cond c (Some (record { stamp = t; value = w })) (Some p)))
    (ap (λ u. le_z u t) h.0) (by (le_z o.stamp t))
  where
    by : (b : Bool) → LastMatched R (cond b (Some (record { stamp = t; value = v })) (Some o)) (cond b (Some (record { stamp = t; value = w })) (Some p))
    by true = (refl, rise)
    by false = h

-- a price that is no lower is worth no less, since lots are no fewer than 1
worth_raised : (p q n : ℤ) → lots_lawful n ≡ true → p ≤ℤ q → (p *ℤ n) ≤ℤ (q *ℤ n)
worth_raised p q (pos n) l h =
    let sums : up p + down q ≤ up q + down p = omega (arith, ints) in
    let times = mul-le-mul_right n sums in
    omega (arith, ints)
worth_raised p q (negsuc n) l h = absurd (true≢false (sym l))

raised_traded : (t p q n : ℤ) (f g : Figures) → (price_lawful p && lots_lawful n) ≡ true → p ≤ℤ q → FiguresRaised f g
    → FiguresRaised (traded t p n f) (traded t q n g)
raised_traded t p q n f g h rise r =
    let worth = worth_raised p q n (and_parts (price_lawful p) (lots_lawful n) h).1 rise in
    let money = r.money in
    record {
      trade = latest_matched ◌≤ℤ◌ f.trade g.trade t p q rise r.trade;
      auction = r.auction;
      spread = r.spread;
      quote = r.quote;
      lots = ap (λ m. m +ℤ n) r.lots;
      money = omega (arith, ints);
    }

raised_auction : (t p q : ℤ) (f g : Figures) → p ≤ℤ q → FiguresRaised f g
    → FiguresRaised (with_auction t p f) (with_auction t q g)
raised_auction t p q f g rise r = record {
  trade = r.trade;
  auction = latest_matched ◌≤ℤ◌ f.auction g.auction t p q rise r.auction;
  spread = r.spread;
  quote = r.quote;
  lots = r.lots;
  money = r.money;
}

raised_with_entry : (k l : Kind) (t : ℤ) (f g : Figures) → kind_lawful k ≡ true → KindRaised k l → FiguresRaised f g
    → FiguresRaised (with_entry k t f) (with_entry l t g)
raised_with_entry (Trade p n) l t f g h (q, rise, is) r =
    subst (λ (j : Kind). FiguresRaised (traded t p n f) (with_entry j t g)) (sym is) (raised_traded t p q n f g h rise r)
raised_with_entry (Auction p n) l t f g h (q, rise, is) r =
    subst (λ (j : Kind). FiguresRaised (with_entry (Auction p n) t f) (with_entry j t g)) (sym is)
    (raised_traded t p q n (with_auction t p f) (with_auction t q g) h rise (raised_auction t p q f g rise r))
raised_with_entry (Leg p n) l t f g h (q, rise, is) r = subst (λ (j : Kind). FiguresRaised f (with_entry j t g)) (sym is) r
raised_with_entry (Spread v) l t f g h is r =
    subst (λ (j : Kind). FiguresRaised (with_entry (Spread v) t f) (with_entry j t g)) (sym is)
    (record {
      trade = r.trade;
      auction = r.auction;
      spread = ap (λ o. latest o t v) r.spread;
      quote = r.quote;
      lots = r.lots;
      money = r.money;
    })
raised_with_entry (Quote b a) l t f g h (c, z, bid, ask, is) r =
    subst (λ (j : Kind). FiguresRaised (with_entry (Quote b a) t f) (with_entry j t g)) (sym is)
    (record {
      trade = r.trade;
      auction = r.auction;
      spread = r.spread;
      quote = latest_matched SidesRaised f.quote g.quote t (record { bid = b; ask = a }) (record { bid = c; ask = z })
          (record { bid = bid; ask = ask }) r.quote;
      lots = r.lots;
      money = r.money;
    })

raised_entered : (s : ℕ) (x : ℤ × ℤ) (f g : Figures) (e e' : Entry) → kind_lawful e.kind ≡ true → EntryRaised e e'
    → FiguresRaised f g → FiguresRaised (entered_in s x f e) (entered_in s x g e')
raised_entered s x f g e e' h rise r =
    subst (λ (k : Figures). FiguresRaised (entered_in s x f e) k)
    (λ i. cond (is_series s (rise.series i) && holds x (rise.stamp i)) (with_entry e'.kind (rise.stamp i) g) g)
    (by (concerns s x e))
  where
    by : (b : Bool) → FiguresRaised (cond b (with_entry e.kind e.stamp f) f) (cond b (with_entry e'.kind e.stamp g) g)
    by true = raised_with_entry e.kind e'.kind e.stamp f g h rise.kind r
    by false = r

-- ---- all entries

raised_fold : (d : Day) (s : ℕ) (x : ℤ × ℤ) (f g : Figures) (es fs : List Entry) → every (allowed d) es ≡ true
    → AllZip EntryRaised es fs → FiguresRaised f g → FiguresRaised (fold (entered_in s x) f es) (fold (entered_in s x) g fs)
raised_fold d s x f g [] [] h rise r = r
raised_fold d s x f g [] (e' ∷ fs) h rise r = absurd rise
raised_fold d s x f g (e ∷ es) [] h rise r = absurd rise
raised_fold d s x f g (e ∷ es) (e' ∷ fs) h rise r =
    let both = and_parts (allowed d e) (every (allowed d) es) h in
    raised_fold d s x (entered_in s x f e) (entered_in s x g e') es fs both.1 rise.1
    (raised_entered s x f g e e' (allowed_kind d e both.0) rise.0 r)

raised_empty : FiguresRaised empty empty
raised_empty = record { trade = tt; auction = tt; spread = refl; quote = tt; lots = refl; money = omega (arith, ints) }

-- entries raised on a path raise the figures of its series
pub raised_figures : (d : Day) (path : List ℕ) (es fs : List Entry) (s w : ℕ) → every (allowed d) es ≡ true
    → AllZip EntryRaised (entries_on path es) (entries_on path fs) → on_path path (pos s) ≡ true
    → FiguresRaised (figures_of d es s w) (figures_of d fs s w)
raised_figures d path es fs s w h rise on =
    related_figures d path es fs s w FiguresRaised on
    (raised_fold d s (edges d w) empty empty (entries_on path es) (entries_on path fs)
    (every_on_path (allowed d) path es h) rise raised_empty)
