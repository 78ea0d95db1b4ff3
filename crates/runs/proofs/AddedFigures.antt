-- Added trades, auctions and spreads take no figure away and change no quote.
use Rattle.std.proofs.Common.{◌≡◌, ℕ, Bool, true, false, cond, ◌&&◌, List, [], ◌∷◌, ℤ, pos, ◌≤ℤ◌, is_some, Some, None, fold, Option, sym, refl, ap, subst, inl, inr, arith}
use lib.Signed.{le_z}
use Rattle.std.proofs.lemmas.Int.{ints}
use Rattle.std.proofs.lemmas.Bool.{and_parts, cond_both, true≢false}
use Rattle.book.specs.Entries.{allowed, kind_lawful, lots_lawful, price_lawful}
use Rattle.book.specs.Figures.{concerns, empty, entered_in, latest, with_entry, traded, with_auction}
use Rattle.book.specs.Records.{every, figures_of}
use Rattle.book.specs.Windows.{edges}
use Rattle.book.specs.declared.days.Day.{Day}
use Rattle.book.specs.declared.entries.Entry.{Entry}
use Rattle.book.specs.declared.entries.Kind.{Kind}
use Rattle.book.specs.declared.entries.Kind.TheVariants.{Trade, Auction, Leg, Spread, Quote}
use Rattle.book.specs.declared.figures.Figures.{Figures}
use Rattle.book.specs.declared.figures.Last.{Last}
use Rattle.book.specs.Ranges.{allowed_kind}
use Rattle.runs.specs.Added.{Among, is_addition}
use Rattle.runs.specs.Relations.{Relation}
use Rattle.runs.specs.PathEntries.{entries_on, on_path}
use Rattle.runs.proofs.PathFigures.{every_on_path, related_figures}

-- ---- no fewer figures

-- the second is there where the first is
abbrev pub StillThere : {V : Type 0} → Relation (Option V)
StillThere v w = is_some v ≡ true → is_some w ≡ true

pub record FiguresMore (f g : Figures) : Type 0 where
  pub trade : StillThere f.trade g.trade
  pub auction : StillThere f.auction g.auction
  pub spread : StillThere f.spread g.spread
  pub quote : f.quote ≡ g.quote
  pub lots : f.lots ≤ℤ g.lots

-- ---- one more entry

latest_there : {V : Type 0} (o : Option (Last V)) (t : ℤ) (v : V) → is_some (latest o t v) ≡ true
latest_there None t v = refl
latest_there (Some o) t v =
    cond_both (le_z o.stamp t) (Some (record { stamp = t; value = v })) (Some o) (λ l. is_some l ≡ true) (λ later. refl)
    (λ earlier. refl)

-- an added trade: lots are no fewer than 1
added_trade : (t p n : ℤ) (f g : Figures) → (price_lawful p && lots_lawful n) ≡ true → FiguresMore f g
    → FiguresMore f (traded t p n g)
added_trade t p n f g h m =
    let some = (and_parts (le_z (pos 1) n) (le_z n (pos 100000)) (and_parts (price_lawful p) (lots_lawful n) h).1).0 in
    let lots = m.lots in
    record {
      trade = λ there. latest_there g.trade t p;
      auction = m.auction;
      spread = m.spread;
      quote = m.quote;
      lots = omega (arith, ints);
    }

added_auction : (t p : ℤ) (f g : Figures) → FiguresMore f g → FiguresMore f (with_auction t p g)
added_auction t p f g m = record {
  trade = m.trade;
  auction = λ there. latest_there g.auction t p;
  spread = m.spread;
  quote = m.quote;
  lots = m.lots;
}

added_with_entry : (k : Kind) (t : ℤ) (f g : Figures) → kind_lawful k ≡ true → is_addition k ≡ true → FiguresMore f g
    → FiguresMore f (with_entry k t g)
added_with_entry (Trade p n) t f g h is m = added_trade t p n f g h m
added_with_entry (Auction p n) t f g h is m = added_trade t p n f (with_auction t p g) h (added_auction t p f g m)
added_with_entry (Leg p n) t f g h is m = absurd (true≢false (sym is))
added_with_entry (Spread v) t f g h is m = record {
  trade = m.trade;
  auction = m.auction;
  spread = λ there. latest_there g.spread t v;
  quote = m.quote;
  lots = m.lots;
}
added_with_entry (Quote b a) t f g h is m = absurd (true≢false (sym is))

both_traded : (t p n : ℤ) (f g : Figures) → FiguresMore f g → FiguresMore (traded t p n f) (traded t p n g)
both_traded t p n f g m =
    let lots = m.lots in
    record {
      trade = λ there. latest_there g.trade t p;
      auction = m.auction;
      spread = m.spread;
      quote = m.quote;
      lots = omega (arith, ints);
    }

both_with_entry : (k : Kind) (t : ℤ) (f g : Figures) → FiguresMore f g → FiguresMore (with_entry k t f) (with_entry k t g)
both_with_entry (Trade p n) t f g m = both_traded t p n f g m
both_with_entry (Auction p n) t f g m =
    both_traded t p n (with_auction t p f) (with_auction t p g)
    (record { trade = m.trade; auction = λ there. latest_there g.auction t p; spread = m.spread; quote = m.quote; lots = m.lots })
both_with_entry (Leg p n) t f g m = m
both_with_entry (Spread v) t f g m = record {
  trade = m.trade;
  auction = m.auction;
  spread = λ there. latest_there g.spread t v;
  quote = m.quote;
  lots = m.lots;
}
both_with_entry (Quote b a) t f g m =
    record {
      trade = m.trade;
      auction = m.auction;
      spread = m.spread;
      quote = ap (λ q. latest q t (record { bid = b; ask = a })) m.quote;
      lots = m.lots;
    }

added_entered : (s : ℕ) (x : ℤ × ℤ) (f g : Figures) (e : Entry) → kind_lawful e.kind ≡ true → is_addition e.kind ≡ true
    → FiguresMore f g → FiguresMore f (entered_in s x g e)
added_entered s x f g e h is m =
    cond_both (concerns s x e) (with_entry e.kind e.stamp g) g (FiguresMore f) (λ yes. added_with_entry e.kind e.stamp f g h is m)
    (λ no. m)

both_entered : (s : ℕ) (x : ℤ × ℤ) (f g : Figures) (e : Entry) → FiguresMore f g
    → FiguresMore (entered_in s x f e) (entered_in s x g e)
both_entered s x f g e m = by (concerns s x e)
  where
    by : (b : Bool) → FiguresMore (cond b (with_entry e.kind e.stamp f) f) (cond b (with_entry e.kind e.stamp g) g)
    by true = both_with_entry e.kind e.stamp f g m
    by false = m

-- ---- all entries

more_fold : (d : Day) (s : ℕ) (x : ℤ × ℤ) (f g : Figures) (es fs : List Entry) → every (allowed d) fs ≡ true → Among es fs
    → FiguresMore f g → FiguresMore (fold (entered_in s x) f es) (fold (entered_in s x) g fs)
more_fold d s x f g [] [] h among m = m
more_fold d s x f g [] (e ∷ fs) h (is, rest) m =
    let both = and_parts (allowed d e) (every (allowed d) fs) h in
    more_fold d s x f (entered_in s x g e) [] fs both.1 rest (added_entered s x f g e (allowed_kind d e both.0) is m)
more_fold d s x f g (e ∷ es) [] h among m = absurd among
more_fold d s x f g (e ∷ es) (e' ∷ fs) h (inl (same, rest)) m =
    more_fold d s x (entered_in s x f e) (entered_in s x g e') es fs (and_parts (allowed d e') (every (allowed d) fs) h).1 rest
    (subst (λ (k : Entry). FiguresMore (entered_in s x f e) (entered_in s x g k)) same (both_entered s x f g e m))
more_fold d s x f g (e ∷ es) (e' ∷ fs) h (inr (is, rest)) m =
    let both = and_parts (allowed d e') (every (allowed d) fs) h in
    more_fold d s x f (entered_in s x g e') (e ∷ es) fs both.1 rest (added_entered s x f g e' (allowed_kind d e' both.0) is m)

more_empty : FiguresMore empty empty
more_empty = record {
  trade = λ there. there;
  auction = λ there. there;
  spread = λ there. there;
  quote = refl;
  lots = omega (arith, ints);
}

-- entries added on a path take no figure of its series away, change no quote, and leave no fewer lots
pub more_figures : (d : Day) (path : List ℕ) (es fs : List Entry) (s w : ℕ) → every (allowed d) fs ≡ true
    → Among (entries_on path es) (entries_on path fs) → on_path path (pos s) ≡ true
    → FiguresMore (figures_of d es s w) (figures_of d fs s w)
more_figures d path es fs s w h among on =
    related_figures d path es fs s w FiguresMore on
    (more_fold d s (edges d w) empty empty (entries_on path es) (entries_on path fs)
    (every_on_path (allowed d) path fs h) among more_empty)
