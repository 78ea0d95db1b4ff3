-- Rounding on a stepped ladder is rounding to the tick of the band that the number lies in.
use Rattle.std.specs.Prelude.{◌≡◌, ◌<◌, ◌≤◌, Bool, true, false, List, [], ◌∷◌, map, length, ℤ, pos, ◌+ℤ◌, neg_ℤ, ◌≤ℤ◌, ◌<ℤ◌, is_some, Some, None, Option, int_lt, nat_le, unsigned_abs, refl}
use Rattle.std.proofs.Common.{sym, ap, ◌∙◌, subst, arith}
use Rattle.std.specs.Int.{int_rem_euclid}
use Rattle.std.proofs.lemmas.Int.{ints, by_lt_z}
use Rattle.std.proofs.lemmas.Bool.{cond-true, cond-false, cond_both, true≢false}
use Rattle.ladders.specs.Multiples.{multiple}
use Rattle.ladders.specs.Rounding.{AnswersWhere, Above, Below, Near}
use Rattle.ladders.specs.Bands.{tick_at, in_bands, band, described, description, first_fault, later_fault, ladder_fault}
use Rattle.ladders.specs.Faults.{or_else}
use Rattle.ladders.specs.declared.bands.Band.{Band}
use Rattle.ladders.specs.Prices.{within}
use Rattle.ladders.specs.declared.faults.LadderFault.{LadderFault}
use Rattle.ladders.specs.declared.faults.LadderFault.TheVariants.{TooManyBands}
use Rattle.ladders.specs.declared.ticks.Tick.{Tick}
use Rattle.ladders.specs.declared.bands.LaterBand.{LaterBand}
use Rattle.ladders.specs.Descriptions.{none_of_both, none_where, next_band}
use Rattle.ladders.specs.Orders.{lt_test, not_lt_test}
use Rattle.ladders.specs.ToTick.{up_is_above, up_is_near}

-- the tick at v of a first band of tick t and the bands after it, and the ladder's lawful prices
abbrev pub at : Tick → List LaterBand → ℤ → ℤ
at t bs v = tick_at (pos t.points) (map described bs) v

abbrev pub stepped : Tick → List LaterBand → ℤ → Bool
stepped t bs = in_bands (description t bs)

-- under the next start the tick is t, and from there on it is that of the later bands
in_first : (t : Tick) (b : LaterBand) (bs : List LaterBand) (v : ℤ) → v <ℤ b.start → at t (b ∷ bs) v ≡ pos t.points
in_first t b bs v h = cond-true (int_lt v b.start) (pos t.points) (at b.tick bs v) (lt_test v b.start h)

in_later : (t : Tick) (b : LaterBand) (bs : List LaterBand) (v : ℤ) → b.start ≤ℤ v → at t (b ∷ bs) v ≡ at b.tick bs v
in_later t b bs v h = cond-false (int_lt v b.start) (pos t.points) (at b.tick bs v) (not_lt_test v b.start h)

lawful_first : (t : Tick) (b : LaterBand) (bs : List LaterBand) (v : ℤ) → v <ℤ b.start → stepped t (b ∷ bs) v ≡ multiple t.points v
lawful_first t b bs v h = ap (λ k. multiple (unsigned_abs k) v) (in_first t b bs v h)

lawful_later : (t : Tick) (b : LaterBand) (bs : List LaterBand) (v : ℤ) → b.start ≤ℤ v → stepped t (b ∷ bs) v ≡ stepped b.tick bs v
lawful_later t b bs v h = ap (λ k. multiple (unsigned_abs k) v) (in_later t b bs v h)

-- it is a tick: 1 to 1,000,000 points
at_range : (t : Tick) (bs : List LaterBand) (v : ℤ) → (0 < unsigned_abs (at t bs v)) × (unsigned_abs (at t bs v) ≤ 1000000)
at_range t [] v = t.lawful
at_range t (b ∷ bs) v =
    cond_both (int_lt v b.start) (pos t.points) (at b.tick bs v) (λ k. (0 < unsigned_abs k) × (unsigned_abs k ≤ 1000000))
    (λ _. t.lawful)
    (λ _. at_range b.tick bs v)

-- what a description without a fault says of the next band
record Joint (t : Tick) (b : LaterBand) (bs : List LaterBand) : Type 0 where
  before : multiple t.points b.start ≡ true
  own : multiple b.tick.points b.start ≡ true
  rest : later_fault (described b) (map described bs) ≡ None

joint : (a : Band) (t : Tick) (b : LaterBand) (bs : List LaterBand) → a.tick ≡ pos t.points → later_fault a (map described (b ∷ bs)) ≡ None → Joint t b bs
joint a t b bs e j =
    let each = next_band a (described b) b.start (map described bs) refl j in
    record {
      before = subst (λ (k : ℤ). multiple (unsigned_abs k) b.start ≡ true) e each.0.before;
      own = each.0.own;
      rest = each.1;
    }

-- the band after b starts over b
over_start : (b c : LaterBand) (cs : List LaterBand) → later_fault (described b) (map described (c ∷ cs)) ≡ None → b.start <ℤ c.start
over_start b c cs j = (next_band (described b) (described c) c.start (map described cs) refl j).0.over

-- a start is lawful in its own band
start_on_own : (t : Tick) (b : LaterBand) (bs : List LaterBand) → Joint t b bs → stepped b.tick bs b.start ≡ true
start_on_own t b [] n = n.own
start_on_own t b (c ∷ cs) n = lawful_first b.tick c cs b.start (over_start b c cs n.rest) ∙ n.own

above_in_band : (a : Band) (t : Tick) (bs : List LaterBand) → a.tick ≡ pos t.points → later_fault a (map described bs) ≡ None → (v p : ℤ) → Above (multiple (unsigned_abs (at t bs v))) v p → Above (stepped t bs) v p
above_in_band a t [] e j v p r = r
above_in_band a t (b ∷ bs) e j v p r =
    let n = joint a t b bs e j in
    by_lt_z v b.start
    (λ under.
    let here : Above (multiple t.points) v p = subst (λ (k : ℤ). Above (multiple (unsigned_abs k)) v p) (in_first t b bs v under) r in
    let short : p ≤ℤ b.start = here.least b.start n.before (omega (arith, ints)) in
    record {
      on = by_lt_z p b.start
          (λ l. lawful_first t b bs p l ∙ here.on)
          (λ l. let same : p ≡ b.start = omega (arith, ints) in
          lawful_later t b bs p l ∙ subst (λ (x : ℤ). stepped b.tick bs x ≡ true) (sym same) (start_on_own t b bs n));
      reaches = here.reaches;
      least = λ q m l. by_lt_z q b.start
          (λ u. here.least q (sym (lawful_first t b bs q u) ∙ m) l)
          (λ u. omega (arith, ints));
    })
    (λ over.
    let here : Above (stepped b.tick bs) v p = above_in_band (described b) b.tick bs refl n.rest v p (subst (λ (k : ℤ). Above (multiple (unsigned_abs k)) v p) (in_later t b bs v over) r) in
    let reached = here.reaches in
    record {
      on = lawful_later t b bs p (omega (arith, ints)) ∙ here.on;
      reaches = reached;
      least = λ q m l. here.least q (sym (lawful_later t b bs q (omega (arith, ints))) ∙ m) l;
    })

below_in_band : (a : Band) (t : Tick) (bs : List LaterBand) → a.tick ≡ pos t.points → later_fault a (map described bs) ≡ None → (v p : ℤ) → Below (multiple (unsigned_abs (at t bs v))) v p → Below (stepped t bs) v p
below_in_band a t [] e j v p r = r
below_in_band a t (b ∷ bs) e j v p r =
    let n = joint a t b bs e j in
    by_lt_z v b.start
    (λ under.
    let here : Below (multiple t.points) v p = subst (λ (k : ℤ). Below (multiple (unsigned_abs k)) v p) (in_first t b bs v under) r in
    let reached = here.reaches in
    record {
      on = lawful_first t b bs p (omega (arith, ints)) ∙ here.on;
      reaches = reached;
      greatest = λ q m l. here.greatest q (sym (lawful_first t b bs q (omega (arith, ints))) ∙ m) l;
    })
    (λ over.
    let here : Below (stepped b.tick bs) v p = below_in_band (described b) b.tick bs refl n.rest v p (subst (λ (k : ℤ). Below (multiple (unsigned_abs k)) v p) (in_later t b bs v over) r) in
    let from : b.start ≤ℤ p = here.greatest b.start (start_on_own t b bs n) over in
    record {
      on = lawful_later t b bs p from ∙ here.on;
      reaches = here.reaches;
      greatest = λ q m l. by_lt_z q b.start
          (λ u. omega (arith, ints))
          (λ u. here.greatest q (sym (lawful_later t b bs q u) ∙ m) l);
    })

-- within a tick, and so within 1,000,000 points, from any number on there is a lawful price
stepped_is_near : (a : Band) (t : Tick) (bs : List LaterBand) → a.tick ≡ pos t.points → later_fault a (map described bs) ≡ None → (z : ℤ) → Near (stepped t bs) z
stepped_is_near a t bs e j z =
    let k = unsigned_abs (at t bs z) in
    let range = at_range t bs z in
    let up = z +ℤ int_rem_euclid (neg_ℤ z) (pos k) in
    let reached = above_in_band a t bs e j z up (up_is_above k z range.0) in
    let short = up_is_near k z range.0 in
    record { price = up; on = reached.on; from = reached.reaches; to = omega (arith, ints) }

-- ---- a checked ladder

-- the later bands of a ladder without a fault have none
sound_later : (t : Tick) (bs : List LaterBand) → is_some (ladder_fault (description t bs)) ≡ false → later_fault (band None t) (map described bs) ≡ None
sound_later t bs e =
    let few = none_where (nat_le (length (map described bs)) 3) (or_else (first_fault (band None t)) (later_fault (band None t) (map described bs))) TooManyBands (no_value (ladder_fault (description t bs)) e) in
    (none_of_both (first_fault (band None t)) (later_fault (band None t) (map described bs)) few.1).1
  where
    no_value : (o : Option LadderFault) → is_some o ≡ false → o ≡ None
    no_value None e = refl
    no_value (Some f) e = absurd (true≢false e)

-- the answer of a tick is the ladder's, where it is the tick at v
pub above_in_ladder : (t k : Tick) (bs : List LaterBand) (v : ℤ) (r : Option ℤ) → is_some (ladder_fault (description t bs)) ≡ false → pos k.points ≡ at t bs v → AnswersWhere (within v) (Above (multiple k.points) v) r → AnswersWhere (within v) (Above (stepped t bs) v) r
above_in_ladder t k bs v None sound is r = r
above_in_ladder t k bs v (Some p) sound is r =
    (r.0, above_in_band (band None t) t bs refl (sound_later t bs sound) v p (subst (λ (x : ℤ). Above (multiple (unsigned_abs x)) v p) is r.1))

pub below_in_ladder : (t k : Tick) (bs : List LaterBand) (v : ℤ) (r : Option ℤ) → is_some (ladder_fault (description t bs)) ≡ false → pos k.points ≡ at t bs v → AnswersWhere (within v) (Below (multiple k.points) v) r → AnswersWhere (within v) (Below (stepped t bs) v) r
below_in_ladder t k bs v None sound is r = r
below_in_ladder t k bs v (Some p) sound is r =
    (r.0, below_in_band (band None t) t bs refl (sound_later t bs sound) v p (subst (λ (x : ℤ). Below (multiple (unsigned_abs x)) v p) is r.1))

pub ladder_is_near : (t : Tick) (bs : List LaterBand) → is_some (ladder_fault (description t bs)) ≡ false → (z : ℤ) → Near (stepped t bs) z
ladder_is_near t bs sound z = stepped_is_near (band None t) t bs refl (sound_later t bs sound) z
