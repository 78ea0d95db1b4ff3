-- Calls that met their demands, and calls that did not.
use Rattle.std.proofs.Common.{◌≡◌, ℕ, Bool, true, false, cond, ℤ, is_ok, Ok, Err, Result, sym, refl, ap, ◌∙◌, ⊎_elim, arith}
use Rattle.std.proofs.lemmas.Bool.{both_ways, cond-true}
use Rattle.book.specs.Ledgers.{Ledger, take_after, take_answer, with_taken}
use Rattle.book.specs.declared.days.Day.{Day}
use Rattle.book.specs.declared.entries.Entry.{Entry}
use Rattle.book.specs.declared.faults.BookFault.{BookFault}
use Rattle.book.proofs.Taking.{taken_or_refused}
use Rattle.house.specs.Calls.{State, by_book, demand, entry_after, entry_answer, entry_check, entry_passed, is_trading, moved, series_of, then}
use Rattle.house.specs.Rolls.{is_listed}
use Rattle.house.specs.declared.faults.HouseFault.{HouseFault}
use Rattle.house.specs.declared.faults.HouseFault.TheVariants.{NoSuchSeries, WrongPhase}
use Rattle.house.specs.declared.series.Series.{Series}

-- a call that found something met its demand
pub met : {A : Type 0} (b : Bool) (f : HouseFault) (x y : A) → Ok x ≡ demand b f (Ok y) → (b ≡ true) × (x ≡ y)
met true f x y is = (refl, grind arith)
met false f x y is = absurd (both_ways (is_ok {E = HouseFault} (Ok x)) (ap is_ok is) refl)

-- the book grows by an entry that it takes, and stays as it is where it refuses one
pub book_moves : (m : Ledger) (e : Entry) → take_after m e ≡ moved (by_book (take_answer m e)) (λ _. with_taken m e) m
book_moves m e =
    ⊎_elim
    (λ p. p.1 ∙ sym (takes (take_answer m e) p.0))
    (λ p. p.1 ∙ sym (refuses (take_answer m e) p.0))
    (taken_or_refused m e)
  where
    takes : (r : Result Unit BookFault) → is_ok r ≡ true → moved (by_book r) (λ _. with_taken m e) m ≡ with_taken m e
    takes (Ok u) h = refl
    takes (Err f) h = absurd (both_ways false refl h)

    refuses : (r : Result Unit BookFault) → is_ok r ≡ false → moved (by_book r) (λ _. with_taken m e) m ≡ m
    refuses (Ok u) h = absurd (both_ways true h refl)
    refuses (Err f) h = refl

-- an entry for a listed series, while trading, has what the day and the terms demand
pub passed : (lawful : ℕ → ℤ → Bool) (d : Day) (e : Entry) (s : State) (x : Series) → is_trading s.phase ≡ true → Ok x ≡ demand (is_listed s.roll.count e.series) NoSuchSeries (Ok (series_of e.series s)) → entry_check lawful d e x.terms ≡ entry_passed lawful d e s
passed lawful d e s x trading found =
    let m = met (is_listed s.roll.count e.series) NoSuchSeries x (series_of e.series s) found in
    let check = entry_check lawful d e (series_of e.series s).terms in
    ap (λ (y : Series). entry_check lawful d e y.terms) m.1
    ∙ sym (cond-true (is_listed s.roll.count e.series) check (Err NoSuchSeries) m.0)
    ∙ sym (cond-true (is_trading s.phase) (demand (is_listed s.roll.count e.series) NoSuchSeries check) (Err WrongPhase) trading)

-- what the house lets pass, the book answers
pub passed_on : (lawful : ℕ → ℤ → Bool) (d : Day) (e : Entry) (s : State) (m : Ledger) → d ≡ m.day → Ok tt ≡ entry_passed lawful d e s → (by_book (take_answer m e) ≡ entry_answer lawful m e s) × (take_after m e ≡ entry_after lawful e s m)
passed_on lawful d e s m day ok =
    let same : Ok tt ≡ entry_passed lawful m.day e s = ok ∙ ap (λ k. entry_passed lawful k e s) day in
    let answers : by_book (take_answer m e) ≡ entry_answer lawful m e s = ap (λ r. then r (by_book (take_answer m e))) same in
    (answers, book_moves m e ∙ ap (λ r. moved r (λ _. with_taken m e) m) answers)

-- and memory that was lent to the book has the entry stored where the book takes it, and else is as it was
pub memory_moves : {M : Type 0} (lawful : ℕ → ℤ → Bool) (d : Day) (e : Entry) (s : State) (m : Ledger) (with_entry memory : M) → d ≡ m.day → Ok tt ≡ entry_passed lawful d e s → cond (is_ok (take_answer m e)) with_entry memory ≡ moved (entry_answer lawful m e s) (λ _. with_entry) memory
memory_moves lawful d e s m with_entry memory day ok =
    by_answer (take_answer m e) ∙ ap (λ r. moved r (λ _. with_entry) memory) (passed_on lawful d e s m day ok).0
  where
    by_answer : (r : Result Unit BookFault) → cond (is_ok r) with_entry memory ≡ moved (by_book r) (λ _. with_entry) memory
    by_answer (Ok u) = refl
    by_answer (Err f) = refl
