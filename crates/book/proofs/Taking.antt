-- What an answer says of the entry and of the book afterwards.
use Rattle.std.proofs.Common.{◌≡◌, ℕ, Bool, true, false, cond, eqb, ◌⊎◌, is_ok, Ok, Err, Result, sym, refl, ap, ◌∙◌, inl, inr, ⊎_elim}
use Rattle.std.proofs.lemmas.Bool.{both_ways, eq-eqb}
use Rattle.book.specs.Entries.{allowed}
use Rattle.book.specs.Ledgers.{Ledger, take_after, take_answer, with_taken, admission}
use Rattle.book.specs.declared.entries.Entry.{Entry}
use Rattle.book.specs.declared.faults.BookFault.{BookFault}
use Rattle.book.specs.declared.faults.BookFault.TheVariants.{BeyondLimits, Full}

abbrev reply_by : Bool → Bool → Result Unit BookFault
reply_by a q = cond a (cond q (Err Full) (Ok tt)) (Err BeyondLimits)

-- an entry is allowed and finds a place, and is taken, or is refused and changes nothing
either_way : (a q : Bool) (m g : Ledger) → ((a ≡ true) × (q ≡ false) × (is_ok (reply_by a q) ≡ true) × (cond a (cond q m g) m ≡ g)) ⊎ ((is_ok (reply_by a q) ≡ false) × (cond a (cond q m g) m ≡ m))
either_way true true m g = inr (refl, refl)
either_way true false m g = inl (refl, refl, refl, refl)
either_way false q m g = inr (refl, refl)

ways : (m : Ledger) (e : Entry) → ((allowed m.day e ≡ true) × (eqb m.count m.capacity ≡ false) × (is_ok (take_answer m e) ≡ true) × (take_after m e ≡ with_taken m e)) ⊎ ((is_ok (take_answer m e) ≡ false) × (take_after m e ≡ m))
ways m e = either_way (allowed m.day e) (eqb m.count m.capacity) m (with_taken m e)

pub taken_or_refused : (m : Ledger) (e : Entry) → ((is_ok (take_answer m e) ≡ true) × (take_after m e ≡ with_taken m e)) ⊎ ((is_ok (take_answer m e) ≡ false) × (take_after m e ≡ m))
taken_or_refused m e = ⊎_elim (λ p. inl (p.2, p.3)) (λ p. inr p) (ways m e)

-- an entry taken
pub record Admitted (m : Ledger) (e : Entry) : Type 0 where
  pub lawful : allowed m.day e ≡ true
  pub place : m.count ≡ m.capacity → ⊥
  pub taken : take_after m e ≡ with_taken m e

pub admitted : (m : Ledger) (e : Entry) → Ok tt ≡ take_answer m e → Admitted m e
admitted m e ok =
    ⊎_elim
    (λ p. record { lawful = p.0; place = λ same. both_ways (eqb m.count m.capacity) p.1 (eq-eqb m.count m.capacity same); taken = p.3 })
    (λ p. absurd (both_ways (is_ok (take_answer m e)) p.0 (ap is_ok (sym ok))))
    (ways m e)

-- the book's answer, from its count and its capacity however they were come by
pub same_reply : (m : Ledger) (n k : ℕ) (e : Entry) → n ≡ m.count → k ≡ m.capacity → admission m.day n k e ≡ take_answer m e
same_reply m n k e count capacity = ap (λ x. admission m.day x k e) count ∙ ap (λ x. admission m.day m.count x e) capacity
