-- A description has no fault exactly if it is lawful.
use Rattle.std.specs.Prelude.{◌≡◌, Bool, true, false, cond, ◌&&◌, List, [], ◌∷◌, length, ℤ, pos, ◌≤ℤ◌, Some, None, Ok, Err, Decides, Option, Result, is_none, is_ok, int_le, nat_le, unsigned_abs, refl}
use Rattle.std.proofs.Common.{sym, ap, ◌∙◌, arith}
use Rattle.std.specs.List.{AllByRecursion}
use Rattle.std.proofs.lemmas.Int.{ints}
use Rattle.std.proofs.lemmas.Option.{none-some}
use Rattle.std.proofs.lemmas.Bool.{and_parts, and_from, cond-true, leb-true, le-leb, true≢false}
use Rattle.ladders.specs.Bands.{rises, start_fault, band_fault, first_fault, later_fault, ladder_fault, no_start}
use Rattle.ladders.specs.Faults.{TakenUnless, or_else, tick_fault}
use Rattle.ladders.specs.Lawful.{LawfulTick, Over, Starts, Follows, Chain, LawfulBands}
use Rattle.ladders.specs.Multiples.{multiple}
use Rattle.ladders.specs.Prices.{within}
use Rattle.ladders.specs.declared.bands.Band.{Band}
use Rattle.ladders.specs.declared.faults.LadderFault.{LadderFault}
use Rattle.ladders.specs.declared.faults.LadderFault.TheVariants.{TickOutOfRange, TooManyBands, StartOutOfRange, StartsNotRising, StartOffTick}
use Rattle.ladders.specs.Orders.{lt_from_test, lt_test, le_from_test}

-- ---- faults that are none

pub none_of_both : (f g : Option LadderFault) → or_else f g ≡ None → (f ≡ None) × (g ≡ None)
none_of_both None g e = (refl, e)
none_of_both (Some f) g e = absurd (none-some f (sym e))

pub both_none : (f g : Option LadderFault) → f ≡ None → g ≡ None → or_else f g ≡ None
both_none f g a b = ap (λ o. or_else o g) a ∙ b

pub none_where : (t : Bool) (g : Option LadderFault) (f : LadderFault) → cond t g (Some f) ≡ None → (t ≡ true) × (g ≡ None)
none_where true g f e = (refl, e)
none_where false g f e = absurd (none-some f (sym e))

where_none : (t : Bool) (g : Option LadderFault) (f : LadderFault) → t ≡ true → g ≡ None → cond t g (Some f) ≡ None
where_none t g f a b = cond-true t g (Some f) a ∙ b

-- ---- a tick

tick_lawful : (k : ℤ) → tick_fault k ≡ None → LawfulTick k
tick_lawful k e =
    let both = and_parts (int_le (pos 1) k) (int_le k (pos 1000000)) (none_where (int_le (pos 1) k && int_le k (pos 1000000)) None TickOutOfRange e).0 in
    (le_from_test (pos 1) k both.0, le_from_test k (pos 1000000) both.1)

tick_sound : (k : ℤ) → LawfulTick k → tick_fault k ≡ None
tick_sound k h =
    where_none (int_le (pos 1) k && int_le k (pos 1000000)) None TickOutOfRange
    (and_from (int_le (pos 1) k) (int_le k (pos 1000000)) (le_test (pos 1) k h.0) (le_test k (pos 1000000) h.1))
    refl
  where
    le_test : (a b : ℤ) → a ≤ℤ b → int_le a b ≡ true
    le_test a b l = grind (arith, ints)

-- ---- a start

over_from : (o : Option ℤ) (s : ℤ) → rises o s ≡ true → Over o s
over_from None s e = tt
over_from (Some a) s e = lt_from_test a s e

over_to : (o : Option ℤ) (s : ℤ) → Over o s → rises o s ≡ true
over_to None s h = refl
over_to (Some a) s h = lt_test a s h

-- the tests of a start, from the outermost in
on_ticks : Band → Band → ℤ → Bool
on_ticks a b s = multiple (unsigned_abs a.tick) s && multiple (unsigned_abs b.tick) s

start_lawful : (a b : Band) (s : ℤ) → start_fault a b.tick (Some s) ≡ None → Starts a b s
unfolding on_ticks
start_lawful a b s e =
    let on = cond (on_ticks a b s) None (Some StartOffTick) in
    let limit = none_where (within s) (cond (rises a.start s) on (Some StartsNotRising)) StartOutOfRange e in
    let over = none_where (rises a.start s) on StartsNotRising limit.1 in
    let ticks = and_parts (multiple (unsigned_abs a.tick) s) (multiple (unsigned_abs b.tick) s) (none_where (on_ticks a b s) None StartOffTick over.1).0 in
    record { limit = limit.0; over = over_from a.start s over.0; before = ticks.0; own = ticks.1 }

start_sound : (a b : Band) (s : ℤ) → Starts a b s → start_fault a b.tick (Some s) ≡ None
unfolding on_ticks
start_sound a b s h =
    let on = cond (on_ticks a b s) None (Some StartOffTick) in
    where_none (within s) (cond (rises a.start s) on (Some StartsNotRising)) StartOutOfRange h.limit
    (where_none (rises a.start s) on StartsNotRising (over_to a.start s h.over)
    (where_none (on_ticks a b s) None StartOffTick (and_from (multiple (unsigned_abs a.tick) s) (multiple (unsigned_abs b.tick) s) h.before h.own) refl))

follows : (a b : Band) (o : Option ℤ) → b.start ≡ o → start_fault a b.tick o ≡ None → Follows a b
follows a b None is e = absurd (none-some _ (sym e))
follows a b (Some s) is e = (s, is, start_lawful a b s e)

-- ---- bands one after the other

-- a band that has a start, and what is left after it
pub next_band : (a b : Band) (s : ℤ) (bs : List Band) → b.start ≡ Some s → later_fault a (b ∷ bs) ≡ None → Starts a b s × (later_fault b bs ≡ None)
next_band a b s bs is e =
    let each = none_of_both (band_fault a b) (later_fault b bs) e in
    let own = none_of_both (tick_fault b.tick) (start_fault a b.tick b.start) each.0 in
    (start_lawful a b s (ap (start_fault a b.tick) (sym is) ∙ own.1), each.1)

later_lawful : (a : Band) (bs : List Band) → later_fault a bs ≡ None → AllByRecursion (λ b. LawfulTick b.tick) bs × Chain a bs
later_lawful a [] e = (tt, tt)
later_lawful a (b ∷ bs) e =
    let each = none_of_both (band_fault a b) (later_fault b bs) e in
    let own = none_of_both (tick_fault b.tick) (start_fault a b.tick b.start) each.0 in
    let rest = later_lawful b bs each.1 in
    ((tick_lawful b.tick own.0, rest.0), (follows a b b.start refl own.1, rest.1))

later_sound : (a : Band) (bs : List Band) → AllByRecursion (λ b. LawfulTick b.tick) bs → Chain a bs → later_fault a bs ≡ None
later_sound a [] ticks chain = refl
later_sound a (b ∷ bs) ticks chain =
    let s = chain.0 in
    both_none (band_fault a b) (later_fault b bs)
    (both_none (tick_fault b.tick) (start_fault a b.tick b.start) (tick_sound b.tick ticks.0)
    (ap (start_fault a b.tick) s.1 ∙ start_sound a b s.0 s.2))
    (later_sound b bs ticks.1 chain.1)

no_start_lawful : (o : Option ℤ) → no_start o ≡ None → o ≡ None
no_start_lawful None e = refl
no_start_lawful (Some s) e = absurd (none-some _ (sym e))

-- ---- a whole ladder

bands_lawful : (bs : List Band) → ladder_fault bs ≡ None → LawfulBands bs
bands_lawful [] e = absurd (none-some _ (sym e))
bands_lawful (b ∷ bs) e =
    let few = none_where (nat_le (length bs) 3) (or_else (first_fault b) (later_fault b bs)) TooManyBands e in
    let each = none_of_both (first_fault b) (later_fault b bs) few.1 in
    let own = none_of_both (no_start b.start) (tick_fault b.tick) each.0 in
    let rest = later_lawful b bs each.1 in
    let h = leb-true (length bs) 3 few.0 in
    record {
      some = omega arith;
      few = omega arith;
      ticks = (tick_lawful b.tick own.1, rest.0);
      joined = (no_start_lawful b.start own.0, rest.1);
    }

bands_sound : (bs : List Band) → LawfulBands bs → ladder_fault bs ≡ None
bands_sound [] h = let k = h.some in absurd (omega arith)
bands_sound (b ∷ bs) h =
    let few = h.few in
    where_none (nat_le (length bs) 3) (or_else (first_fault b) (later_fault b bs)) TooManyBands (le-leb (length bs) 3 (omega arith))
    (both_none (first_fault b) (later_fault b bs)
    (both_none (no_start b.start) (tick_fault b.tick) (ap no_start h.joined.0) (tick_sound b.tick h.ticks.0))
    (later_sound b bs h.ticks.1 h.joined.1))

-- ---- decided by the fault

pub decided_by : (f : Option LadderFault) (P : Type 0) → (f ≡ None → P) → (P → f ≡ None) → Decides (is_none f) P
decided_by None P lawful sound = (λ _. lawful refl, λ _. refl)
decided_by (Some f) P lawful sound = (λ t. absurd (true≢false (sym t)), λ l. absurd (none-some f (sym (sound l))))

pub tick_decided : (k : ℤ) → Decides (is_none (tick_fault k)) (LawfulTick k)
tick_decided k = decided_by (tick_fault k) (LawfulTick k) (tick_lawful k) (tick_sound k)

pub bands_decided : (bs : List Band) → Decides (is_none (ladder_fault bs)) (LawfulBands bs)
bands_decided bs = decided_by (ladder_fault bs) (LawfulBands bs) (bands_lawful bs) (bands_sound bs)

-- what is taken exactly without a fault is taken exactly if it is lawful
pub taken_decides : {A : Type 0} (f : Option LadderFault) (P : Type 0) (Q : A → Type 0) (r : Result A LadderFault) → Decides (is_none f) P → TakenUnless f Q r → Decides (is_ok r) P
taken_decides f P Q (Ok a) d t = (λ _. d.0 (ap is_none t.0), λ _. refl)
taken_decides f P Q (Err e) d t = (λ x. absurd (true≢false (sym x)), λ l. absurd (true≢false (sym (d.1 l) ∙ ap is_none t)))
