-- The figures that entries make are evidence of these entries.
use Rattle.std.proofs.Common.{◌≡◌, ℕ, Bool, true, false, cond, ◌&&◌, List, [], ◌∷◌, ◌++◌, ℤ, pos, ◌+ℤ◌, ◌≤ℤ◌, ◌<ℤ◌, is_some, Some, None, fold, filter, Option, sym, refl, ap, ◌∙◌, subst, ⊎_elim, arith}
use lib.Signed.{le_z}
use Rattle.std.specs.List.{AllByRecursion}
use Rattle.std.proofs.lemmas.List.Elements.{filter-append}
use Rattle.std.proofs.ByRecursion.{All-append, All-push, All-weaker}
use Rattle.std.proofs.lemmas.List.{append_assoc, append-nil}
use Rattle.std.proofs.lemmas.Int.{ints}
use Rattle.std.proofs.lemmas.Bool.{and_cases, and_left, cases_Bool, cond_both, cond-false, cond-true, both_ways, true≢false}
use Rattle.book.specs.Evidence.{StandsLast, Evidence, LastOf, auction_price, lots_of, no_leg, own_entries, pick, quote_sides, spread_value, total, trade_price, trades, worth_of}
use Rattle.book.specs.Figures.{concerns, empty, entered_in, is_series, latest, with_entry}
use Rattle.book.specs.Ledgers.{entered}
use Rattle.book.specs.Records.{figures_of, recorded}
use Rattle.book.specs.Windows.{edges, holds}
use Rattle.book.specs.declared.days.Day.{Day}
use Rattle.book.specs.declared.entries.Entry.{Entry}
use Rattle.book.specs.declared.entries.Kind.{Kind}
use Rattle.book.specs.declared.entries.Kind.TheVariants.{Trade, Auction, Leg, Spread, Quote}
use Rattle.book.specs.declared.figures.Figures.{Figures}
use Rattle.book.specs.declared.figures.Last.{Last}
use Rattle.book.specs.Orders.{le_from, over_from}

-- what holds of no entries and stays as one more is entered holds of all
holds_of_fold : (Rel : List Entry → Figures → Type 0) (step : Figures → Entry → Figures) → ((xs : List Entry) (f : Figures) (e : Entry) → Rel xs f → Rel (xs ++ (e ∷ [])) (step f e)) → (xs es : List Entry) (f : Figures) → Rel xs f → Rel (xs ++ es) (fold step f es)
holds_of_fold Rel step push xs [] f r = subst (λ (ys : List Entry). Rel ys f) (sym (append-nil xs)) r
holds_of_fold Rel step push xs (e ∷ es) f r =
    subst (λ (ys : List Entry). Rel ys (fold step (step f e) es)) (append_assoc xs (e ∷ []) es)
    (holds_of_fold Rel step push (xs ++ (e ∷ [])) es (step f e) (push xs f e r))

-- ---- last figures

-- a last figure after one more entry, which has a value for it or not
abbrev next : {V : Type 0} → Option V → ℤ → Option (Last V) → Option (Last V)
next None t o = o
next (Some v) t o = latest o t v

none_is_not_some : {V : Type 0} (q : Option V) → q ≡ None → is_some q ≡ true → ⊥
none_is_not_some q e h = both_ways (is_some q) (ap is_some e) h

-- a last figure stays so after one more entry that has nothing for it, or an earlier stamp
stays_last : {V : Type 0} (picked : Entry → Option V) (xs : List Entry) (e : Entry) (o : Last V) → (is_some (picked e) ≡ true → e.stamp <ℤ o.stamp) → StandsLast picked xs o → StandsLast picked (xs ++ (e ∷ [])) o
stays_last picked xs e o early r = record {
  front = r.front;
  entry = r.entry;
  rest = r.rest ++ (e ∷ []);
  stands = ap (λ ys. ys ++ (e ∷ [])) r.stands ∙ append_assoc r.front (r.entry ∷ r.rest) (e ∷ []);
  value = r.value;
  stamp = r.stamp;
  before = r.before;
  since = All-push (λ x. is_some (picked x) ≡ true → x.stamp <ℤ o.stamp) r.rest e r.since early;
}

-- an entry that has nothing for the figure leaves it
passed_by : {V : Type 0} (picked : Entry → Option V) (xs : List Entry) (e : Entry) (o : Option (Last V)) → picked e ≡ None → LastOf picked xs o → LastOf picked (xs ++ (e ∷ [])) o
passed_by picked xs e None none r = All-push (λ x. picked x ≡ None) xs e r none
passed_by picked xs e (Some o) none r = stays_last picked xs e o (λ h. absurd (none_is_not_some (picked e) none h)) r

-- an entry with as late a stamp as any before it is last
comes_last : {V : Type 0} (picked : Entry → Option V) (xs : List Entry) (e : Entry) (v : V) → picked e ≡ Some v → AllByRecursion (λ x. is_some (picked x) ≡ true → x.stamp ≤ℤ e.stamp) xs → StandsLast picked (xs ++ (e ∷ [])) (record { stamp = e.stamp; value = v })
comes_last picked xs e v has before = record { front = xs; entry = e; rest = []; stands = refl; value = has; stamp = refl; before = before; since = tt }

-- no entry for the figure has a later stamp than the last one
none_later : {V : Type 0} (picked : Entry → Option V) (xs : List Entry) (o : Last V) (t : ℤ) → o.stamp ≤ℤ t → StandsLast picked xs o → AllByRecursion (λ x. is_some (picked x) ≡ true → x.stamp ≤ℤ t) xs
none_later picked xs o t up r =
    let P : Entry → Type 0 = λ x. is_some (picked x) ≡ true → x.stamp ≤ℤ t in
    let own : r.entry.stamp ≤ℤ t = subst (λ (z : ℤ). z ≤ℤ t) (sym r.stamp) up in
    let front = All-weaker (λ x. is_some (picked x) ≡ true → x.stamp ≤ℤ o.stamp) P (λ x k h. let l = k h in omega (arith, ints)) r.front r.before in
    let rest = All-weaker (λ x. is_some (picked x) ≡ true → x.stamp <ℤ o.stamp) P (λ x k h. let l = k h in omega (arith, ints)) r.rest r.since in
    subst (AllByRecursion P) (sym r.stands) (All-append P r.front (r.entry ∷ r.rest) front ((λ h. own), rest))

last_push : {V : Type 0} (picked : Entry → Option V) (xs : List Entry) (e : Entry) (q : Option V) (o : Option (Last V)) → picked e ≡ q → LastOf picked xs o → LastOf picked (xs ++ (e ∷ [])) (next q e.stamp o)
last_push picked xs e None o is r = passed_by picked xs e o is r
last_push picked xs e (Some v) None is r =
    comes_last picked xs e v is (All-weaker (λ x. picked x ≡ None) (λ x. is_some (picked x) ≡ true → x.stamp ≤ℤ e.stamp) (λ x none h. absurd (none_is_not_some (picked x) none h)) xs r)
last_push picked xs e (Some v) (Some o) is r =
    cond_both (le_z o.stamp e.stamp) (Some (record { stamp = e.stamp; value = v })) (Some o) (LastOf picked (xs ++ (e ∷ [])))
    (λ up. comes_last picked xs e v is (none_later picked xs o e.stamp (le_from o.stamp e.stamp up) r))
    (λ down. stays_last picked xs e o (λ h. over_from o.stamp e.stamp down) r)

-- ---- what each kind does to each figure

record Fields (b : Bool) (k : Kind) (t : ℤ) (f : Figures) : Type 0 where
  trade : (cond b (with_entry k t f) f).trade ≡ next (cond b (trade_price k) None) t f.trade
  auction : (cond b (with_entry k t f) f).auction ≡ next (cond b (auction_price k) None) t f.auction
  spread : (cond b (with_entry k t f) f).spread ≡ next (cond b (spread_value k) None) t f.spread
  quote : (cond b (with_entry k t f) f).quote ≡ next (cond b (quote_sides k) None) t f.quote
  lots : (cond b (with_entry k t f) f).lots ≡ cond (is_some (cond b (trade_price k) None)) (f.lots +ℤ lots_of k) f.lots
  money : (cond b (with_entry k t f) f).money ≡ cond (is_some (cond b (trade_price k) None)) (f.money +ℤ worth_of k) f.money

fields : (b : Bool) (k : Kind) (t : ℤ) (f : Figures) → Fields b k t f
fields false k t f = record { trade = refl; auction = refl; spread = refl; quote = refl; lots = refl; money = refl }
fields true (Trade p n) t f = record { trade = refl; auction = refl; spread = refl; quote = refl; lots = refl; money = refl }
fields true (Auction p n) t f = record { trade = refl; auction = refl; spread = refl; quote = refl; lots = refl; money = refl }
fields true (Leg p n) t f = record { trade = refl; auction = refl; spread = refl; quote = refl; lots = refl; money = refl }
fields true (Spread v) t f = record { trade = refl; auction = refl; spread = refl; quote = refl; lots = refl; money = refl }
fields true (Quote l a) t f = record { trade = refl; auction = refl; spread = refl; quote = refl; lots = refl; money = refl }

at : (s : ℕ) (x : ℤ × ℤ) (f : Figures) (e : Entry) → Fields (concerns s x e) e.kind e.stamp f
at s x f e = fields (concerns s x e) e.kind e.stamp f

-- ---- sums

total_append : (g : Entry → ℤ) (xs ys : List Entry) → total g (xs ++ ys) ≡ total g xs +ℤ total g ys
total_append g [] ys = omega (arith, ints)
total_append g (x ∷ xs) ys = let more = total_append g xs ys in omega (arith, ints)

sum_push : (g : Entry → ℤ) (p : Entry → Bool) (xs : List Entry) (e : Entry) (a : ℤ) → a ≡ total g (filter p xs) → cond (p e) (a +ℤ g e) a ≡ total g (filter p (xs ++ (e ∷ [])))
sum_push g p xs e a is =
    ⊎_elim
    (λ b. cond-true (p e) (a +ℤ g e) a b ∙ sums (g e) (e ∷ []) (cond-true (p e) (e ∷ []) [] b) (omega (arith, ints)))
    (λ b. cond-false (p e) (a +ℤ g e) a b ∙ plain ∙ sums (pos 0) [] (cond-false (p e) (e ∷ []) [] b) refl)
    (cases_Bool (p e))
  where
    plain : a ≡ a +ℤ pos 0
    plain = omega (arith, ints)

    sums : (z : ℤ) (ys : List Entry) → cond (p e) (e ∷ []) [] ≡ ys → z ≡ total g ys → a +ℤ z ≡ total g (filter p (xs ++ (e ∷ [])))
    sums z ys one same =
        ap (λ k. k +ℤ z) is
        ∙ ap (λ k. total g (filter p xs) +ℤ k) same
        ∙ sym (ap (total g) (filter-append p xs (e ∷ []) ∙ ap (λ zs. filter p xs ++ zs) one) ∙ total_append g (filter p xs) ys)

-- ---- figures depend on the entries for their series, legs aside

leg_enters_nothing : (k : Kind) (t : ℤ) (f : Figures) → no_leg k ≡ false → with_entry k t f ≡ f
leg_enters_nothing (Trade p n) t f h = absurd (true≢false h)
leg_enters_nothing (Auction p n) t f h = absurd (true≢false h)
leg_enters_nothing (Leg p n) t f h = refl
leg_enters_nothing (Spread v) t f h = absurd (true≢false h)
leg_enters_nothing (Quote b a) t f h = absurd (true≢false h)

others_enter_nothing : (s : ℕ) (x : ℤ × ℤ) (f : Figures) (e : Entry) → (is_series s e.series && no_leg e.kind) ≡ false → entered_in s x f e ≡ f
others_enter_nothing s x f e h =
    ⊎_elim
    (λ other. cond-false (concerns s x e) (with_entry e.kind e.stamp f) f (and_left (is_series s e.series) (holds x e.stamp) other))
    (λ leg. cond_both (concerns s x e) (with_entry e.kind e.stamp f) f (λ g. g ≡ f) (λ b. leg_enters_nothing e.kind e.stamp f leg) (λ b. refl))
    (and_cases (is_series s e.series) (no_leg e.kind) h)

own_fold : (s : ℕ) (x : ℤ × ℤ) (f : Figures) (es : List Entry) → fold (entered_in s x) f (own_entries s es) ≡ fold (entered_in s x) f es
own_fold s x f [] = refl
own_fold s x f (e ∷ es) =
    ⊎_elim
    (λ b. ap (fold (entered_in s x) f) (cond-true (is_series s e.series && no_leg e.kind) (e ∷ own_entries s es) (own_entries s es) b) ∙ own_fold s x (entered_in s x f e) es)
    (λ b. ap (fold (entered_in s x) f) (cond-false (is_series s e.series && no_leg e.kind) (e ∷ own_entries s es) (own_entries s es) b)
    ∙ own_fold s x f es
    ∙ ap (λ g. fold (entered_in s x) g es) (sym (others_enter_nothing s x f e b)))
    (cases_Bool (is_series s e.series && no_leg e.kind))

-- ---- all of it

pub evidence : (d : Day) (k : ℕ) (es : List Entry) → Evidence (recorded d k es) es
evidence d k es = record {
  count = refl;
  trade = λ s w. last trade_price s w (λ f. f.trade) (λ f e. (at s (edges d w) f e).trade) tt;
  auction = λ s w. last auction_price s w (λ f. f.auction) (λ f e. (at s (edges d w) f e).auction) tt;
  spread = λ s w. last spread_value s w (λ f. f.spread) (λ f e. (at s (edges d w) f e).spread) tt;
  quote = λ s w. last quote_sides s w (λ f. f.quote) (λ f e. (at s (edges d w) f e).quote) tt;
  lots = λ s w. sum lots_of s w (λ f. f.lots) (λ f e. (at s (edges d w) f e).lots) refl;
  money = λ s w. sum worth_of s w (λ f. f.money) (λ f e. (at s (edges d w) f e).money) refl;
  own = λ s w others same.
      sym (own_fold s (edges d w) empty others) ∙ ap (fold (entered d s w) empty) same ∙ own_fold s (edges d w) empty es;
}
  where
    last : {V : Type 0} (has : Kind → Option V) (s w : ℕ) (figure : Figures → Option (Last V)) → ((f : Figures) (e : Entry) → figure (entered d s w f e) ≡ next (pick has s (edges d w) e) e.stamp (figure f)) → LastOf (pick has s (edges d w)) [] (figure empty) → LastOf (pick has s (edges d w)) es (figure (figures_of d es s w))
    last {V} has s w figure moves none =
        holds_of_fold (λ xs f. LastOf (pick has s (edges d w)) xs (figure f)) (entered d s w)
        (λ xs f e r. subst (λ (o : Option (Last V)). LastOf (pick has s (edges d w)) (xs ++ (e ∷ [])) o) (sym (moves f e)) (last_push (pick has s (edges d w)) xs e (pick has s (edges d w) e) (figure f) refl r))
        [] es empty none

    sum : (amount : Kind → ℤ) (s w : ℕ) (figure : Figures → ℤ) → ((f : Figures) (e : Entry) → figure (entered d s w f e) ≡ cond (is_some (pick trade_price s (edges d w) e)) (figure f +ℤ amount e.kind) (figure f)) → figure empty ≡ pos 0 → figure (figures_of d es s w) ≡ total (λ e. amount e.kind) (trades s (edges d w) es)
    sum amount s w figure moves none =
        holds_of_fold (λ xs f. figure f ≡ total (λ e. amount e.kind) (trades s (edges d w) xs)) (entered d s w)
        (λ xs f e r. moves f e ∙ sum_push (λ x. amount x.kind) (λ x. is_some (pick trade_price s (edges d w) x)) xs e (figure f) r)
        [] es empty none
