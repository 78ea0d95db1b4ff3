-- What is lawful on a ladder of a set.
use Rattle.std.specs.Prelude.{◌≡◌, ℕ, zero, suc, ◌+◌, ◌<◌, ◌≤◌, Bool, true, cond, List, [], ◌∷◌, ◌++◌, length, take, drop, ℤ, Some, None, is_none, nat_le, Decides, Option, MatchOption, option_copied, slice_get, slice_index_or, slice_set, refl}
use Rattle.std.specs.Borrow.{Bor}
use Rattle.std.specs.Option.{option_map_or, unwrap_or}
use Rattle.std.proofs.Common.{sym, ap, ◌∙◌, subst, arith}
use Rattle.std.proofs.lemmas.List.{at_drop_more, length-take, take_more, take_more_set}
use Rattle.std.proofs.lemmas.Grind.{get_or_after_one}
use Rattle.std.proofs.lemmas.Int.{ints}
use Rattle.std.specs.List.{AllByRecursion}
use Rattle.std.proofs.lemmas.Bool.{cond_both, leb-true}
use Rattle.std.proofs.lemmas.Option.{none-some}
use mathlib.Core.Path.{fun_ext}
use Rattle.ladders.specs.Descriptions.{none_of_both, none_where}
use Rattle.ladders.specs.Faults.{or_else, size_fault}
use Rattle.ladders.specs.declared.faults.LadderFault.{LadderFault}
use Rattle.ladders.specs.declared.faults.LadderFault.TheVariants.{TooManyLadders}
use Rattle.ladders.specs.Lawful.{LawfulSet}
use Rattle.ladders.specs.LawfulPrices.{PricesByLadder}
use Rattle.ladders.specs.Prices.{within}
use Rattle.ladders.specs.Rounding.{AnswersWhere, Above, Below, Near}
use Rattle.ladders.specs.Sets.{lawful_at, each_fault, set_fault}

module _ {L : Type 0} (holds : L → ℤ → Bool) where
  -- every whole number is lawful where the set has no ladder
  pub at_get : (ls : List L) (n : ℕ) → lawful_at holds ls n ≡ option_map_or holds (slice_get ls n) (λ v. true)
  at_get [] n = refl
  at_get (l ∷ ls) zero = refl
  at_get (l ∷ ls) (suc n) = at_get ls n

  -- what follows from the ladder that is found at a number, and what from there being none, holds of the number
  pub by_ladder : (Q : (ℤ → Bool) → Type 0) (ls : List L) (n : ℕ) (o : Option (Bor L)) (N : Type 0) (S : Bor L → Type 0) → option_copied o ≡ slice_get ls n → MatchOption o N S → (N → Q (λ v. true)) → ((l : Bor L) → S l → Q (holds l.now)) → Q (lawful_at holds ls n)
  by_ladder Q ls n o N S e m none some = subst Q (ap (λ p. option_map_or holds p (λ v. true)) e ∙ sym (at_get ls n)) (each o m)
    where
      each : (o : Option (Bor L)) → MatchOption o N S → Q (option_map_or holds (option_copied o) (λ v. true))
      each None m = none m
      each (Some l) m = some l m

  -- a ladder that it lacks
  past_set : (ls : List L) (n : ℕ) → length ls ≤ n → (v : ℤ) → lawful_at holds ls n v ≡ true
  past_set [] n h v = refl
  past_set (l ∷ ls) zero h v = absurd (omega arith)
  past_set (l ∷ ls) (suc n) h v = past_set ls n (omega arith) v

  pub lacks : (ls : List L) (k n : ℕ) → k ≤ n → (v : ℤ) → lawful_at holds (take k ls) n v ≡ true
  lacks ls k n h v = let few = length-take k ls in past_set (take k ls) n (omega arith) v

  pub set_is_near : ((l : L) (z : ℤ) → Near (holds l) z) → (ls : List L) (n : ℕ) (z : ℤ) → Near (lawful_at holds ls n) z
  set_is_near near [] n z = record { price = z; on = refl; from = omega (arith, ints); to = omega (arith, ints) }
  set_is_near near (l ∷ ls) zero z = near l z
  set_is_near near (l ∷ ls) (suc n) z = set_is_near near ls n z

-- where every whole number is lawful, a number within the limit is its own rounding, up and down
own_rounding : (Rounding : ℤ → Type 0) (v : ℤ) (r : Option ℤ) → Rounding v → r ≡ cond (within v) (Some v) None → AnswersWhere (within v) Rounding r
own_rounding Rounding v r own e =
    subst (AnswersWhere (within v) Rounding) (sym e)
    (cond_both (within v) (Some v) None (AnswersWhere (within v) Rounding) (λ t. (t, own)) (λ t. t))

pub above_itself : (P : ℤ → Bool) → ((v : ℤ) → P v ≡ true) → (v : ℤ) (r : Option ℤ) → r ≡ cond (within v) (Some v) None → AnswersWhere (within v) (Above P v) r
above_itself P all v r = own_rounding (Above P v) v r (record { on = all v; reaches = omega (arith, ints); least = λ q _ l. l })

pub below_itself : (P : ℤ → Bool) → ((v : ℤ) → P v ≡ true) → (v : ℤ) (r : Option ℤ) → r ≡ cond (within v) (Some v) None → AnswersWhere (within v) (Below P v) r
below_itself P all v r = own_rounding (Below P v) v r (record { on = all v; reaches = omega (arith, ints); greatest = λ q _ l. l })

-- ---- one ladder more of a set that is described: d stands at place i

-- the ladders are those described, one by one
abbrev pub AsDescribed : {D L : Type 0} → (D → ℤ → Bool) → (L → ℤ → Bool) → List D → List L → Type 0
AsDescribed prices holds [] [] = Unit {0}
AsDescribed prices holds [] (l ∷ ls) = ⊥
AsDescribed prices holds (d ∷ ds) [] = ⊥
AsDescribed prices holds (d ∷ ds) (l ∷ ls) = ((v : ℤ) → holds l v ≡ prices d v) × AsDescribed prices holds ds ls

module _ {D L : Type 0} (fault : D → Option LadderFault) (prices : D → ℤ → Bool) (holds : L → ℤ → Bool) where
  at_drop : (ds : List D) (i : ℕ) (d : D) → i < length ds → d ≡ slice_index_or ds i d → each_fault fault (drop i ds) ≡ or_else (fault d) (each_fault fault (drop (i + 1) ds))
  at_drop ds i d h read = at_drop_more (each_fault fault) ds i d h ∙ ap (λ x. or_else (fault x) (each_fault fault (drop (i + 1) ds))) (sym read)

  pub faulty_at : (ds : List D) (i : ℕ) (d : D) (f : LadderFault) → i < length ds → d ≡ slice_index_or ds i d → each_fault fault ds ≡ each_fault fault (drop i ds) → fault d ≡ Some f → each_fault fault ds ≡ Some f
  faulty_at ds i d f h read inv e = inv ∙ at_drop ds i d h read ∙ ap (λ o. or_else o (each_fault fault (drop (i + 1) ds))) e

  pub sound_at : (ds : List D) (i : ℕ) (d : D) → i < length ds → d ≡ slice_index_or ds i d → each_fault fault ds ≡ each_fault fault (drop i ds) → fault d ≡ None → each_fault fault ds ≡ each_fault fault (drop (i + 1) ds)
  sound_at ds i d h read inv e = inv ∙ at_drop ds i d h read ∙ ap (λ o. or_else o (each_fault fault (drop (i + 1) ds))) e

  -- what stands at a place of the list behind the first
  pub at_later : (ds later : List D) (i : ℕ) (d : D) → later ≡ drop 1 ds → d ≡ slice_index_or later i d → d ≡ slice_index_or ds (i + 1) d
  at_later ds later i d is read =
      let one_on : 1 + i ≡ i + 1 = omega arith in
      read ∙ ap (λ (xs : List D). slice_index_or xs i d) is ∙ get_or_after_one ds i d ∙ ap (λ k. slice_index_or ds k d) one_on

  described_push : (ds : List D) (ls : List L) (d : D) (l : L) → AsDescribed prices holds ds ls → ((v : ℤ) → holds l v ≡ prices d v) → AsDescribed prices holds (ds ++ (d ∷ [])) (ls ++ (l ∷ []))
  described_push [] [] d l t e = (e, tt)
  described_push [] (m ∷ ms) d l t e = absurd t
  described_push (c ∷ cs) [] d l t e = absurd t
  described_push (c ∷ cs) (m ∷ ms) d l t e = (t.0, described_push cs ms d l t.1 e)

  pub described_more : (ds : List D) (ls : List L) (i : ℕ) (d : D) (l : L) → i < length ds → i < length ls → d ≡ slice_index_or ds i d → AsDescribed prices holds (take i ds) (take i ls) → ((v : ℤ) → holds l v ≡ prices d v) → AsDescribed prices holds (take (i + 1) ds) (take (i + 1) (slice_set ls i l))
  described_more ds ls i d l h k read inv e =
      let more = take_more ds i d h ∙ ap (λ x. take i ds ++ (x ∷ [])) (sym read) in
      subst (λ (xs : List D). AsDescribed prices holds xs (take (i + 1) (slice_set ls i l))) (sym more)
      (subst (AsDescribed prices holds (take i ds ++ (d ∷ []))) (sym (take_more_set ls i l k)) (described_push (take i ds) (take i ls) d l inv e))

  -- with a lawful number of ladders, the fault of a set is one of its ladders'
  pub sized : (ds : List D) → size_fault (length ds) ≡ None → set_fault fault ds ≡ each_fault fault ds
  sized ds e = ap (λ o. or_else o (each_fault fault ds)) e

  pub described_lawful : (ds : List D) (ls : List L) → AsDescribed prices holds ds ls → (n : ℕ) (v : ℤ) → lawful_at holds ls n v ≡ lawful_at prices ds n v
  described_lawful [] [] t n v = refl
  described_lawful [] (l ∷ ls) t n v = absurd t
  described_lawful (d ∷ ds) [] t n v = absurd t
  described_lawful (d ∷ ds) (l ∷ ls) t zero v = t.0 v
  described_lawful (d ∷ ds) (l ∷ ls) t (suc n) v = described_lawful ds ls t.1 n v

-- ---- in the words of the rules

-- without a fault there are 1 to 16 ladders, each lawful
size_lawful : (n : ℕ) → size_fault n ≡ None → (1 ≤ n) × (n ≤ 16)
size_lawful zero e = absurd (none-some _ (sym e))
size_lawful (suc n) e = let few = leb-true (suc n) 16 (none_where (nat_le (suc n) 16) None TooManyLadders e).0 in (omega arith, few)

module _ {D : Type 0} (fault : D → Option LadderFault) (lawful : D → Type 0) (decided : (d : D) → Decides (is_none (fault d)) (lawful d)) where
  each_lawful : (ds : List D) → each_fault fault ds ≡ None → AllByRecursion lawful ds
  each_lawful [] e = tt
  each_lawful (d ∷ ds) e =
      let both = none_of_both (fault d) (each_fault fault ds) e in
      ((decided d).0 (ap is_none both.0), each_lawful ds both.1)

  pub set_lawful : (ds : List D) → set_fault fault ds ≡ None → LawfulSet lawful ds
  set_lawful ds e =
      let both = none_of_both (size_fault (length ds)) (each_fault fault ds) e in
      let size = size_lawful (length ds) both.0 in
      record { some = size.0; few = size.1; each = each_lawful ds both.1 }

-- what lawful descriptions tell of their prices holds of the ladders at their numbers
module _ {D : Type 0} (lawful : D → Type 0) (prices : D → ℤ → Bool) (lawful_prices : D → (ℤ → Bool) → Type 0) (told : (d : D) → lawful d → lawful_prices d (prices d)) where
  at_number : (ds : List D) → AllByRecursion lawful ds → (n : ℕ) (d : D) → slice_get ds n ≡ Some d → lawful_prices d (lawful_at prices ds n)
  at_number [] h n d e = absurd (none-some d e)
  at_number (c ∷ cs) h zero d e = subst (λ (x : D). lawful_prices x (prices c)) (ap (λ o. unwrap_or o c) e) (told c h.0)
  at_number (c ∷ cs) h (suc n) d e = at_number cs h.1 n d e

  pub prices_by_ladder : (ds : List D) (all : ℕ → ℤ → Bool) → AllByRecursion lawful ds → ((n : ℕ) (v : ℤ) → all n v ≡ lawful_at prices ds n v) → PricesByLadder lawful_prices ds all
  prices_by_ladder ds all h same n d e = subst (lawful_prices d) (fun_ext (λ v. sym (same n v))) (at_number ds h n d e)
