-- What the calls of a list leave, call by call; and what is stored of those taken, in memory of any kind and in places for entries.
use Rattle.std.proofs.Common.{◌≡◌, ℕ, ◌+◌, ◌<◌, ◌≤◌, Bool, true, false, cond, List, [], ◌∷◌, ◌++◌, length, drop, set, get_or, ℤ, is_ok, Ok, Err, Result, sym, refl, ap, ◌∙◌, arith}
use Rattle.std.specs.Borrow.{MutBor}
use Rattle.std.proofs.Math.Numerals.{add-one}
use Rattle.std.proofs.lemmas.List.{at_drop_more}
use Rattle.std.proofs.lemmas.List.Edits.{sets, sets-eq}
use Rattle.book.specs.Ledgers.{Ledger, with_taken}
use Rattle.book.specs.Takings.{with_all_stored}
use Rattle.book.specs.declared.entries.Entry.{Entry}
use Rattle.house.specs.Calls.{State, entry_answer, moved, ok_with}
use Rattle.house.specs.declared.faults.HouseFault.{HouseFault}
use Rattle.calls.specs.Worlds.{World, after_call, is_taken, memory_after_call}
use Rattle.calls.specs.declared.call.Call.{Call}
use Rattle.calls.specs.declared.call.Call.TheVariants.{List as ListCall, Ring, Enter, SetTheory, SetRuling, Settle}
use Rattle.calls.specs.declared.call.Reply.TheVariants.{Done}
use Rattle.runs.specs.ByCalls.{entries, entries_in}
use Rattle.runs.specs.Runs.{after_run, calls_taken}
use Rattle.runs.specs.Stored.{filled}

-- ---- a call and those that follow it

-- one call further in a list of calls, over the same ladders
pub made_next : (ladders : ℕ) (lawful : ℕ → ℤ → Bool) (d : Call) (n : ℕ) (P : ℕ → ℤ → Bool) (calls : List Call) (i : ℕ) (w next end : World) → n ≡ ladders → P ≡ lawful
    → i < length calls → next ≡ after_call n P (get_or calls i d) w
    → after_run ladders lawful (drop i calls) w ≡ end → after_run ladders lawful (drop (i + 1) calls) next ≡ end
made_next ladders lawful d n P calls i w next end size prices few is so_far =
    ap (after_run ladders lawful (drop (i + 1) calls)) (is ∙ λ j. after_call (size j) (prices j) (get_or calls i d) w)
    ∙ sym (at_drop_more (λ cs. after_run ladders lawful cs w) calls i d few)
    ∙ so_far

module _ {M : Type 0} (with_stored : M → ℕ → Entry → M) (ladders : ℕ) (lawful : ℕ → ℤ → Bool) where
  -- memory with the entries of the calls taken stored in it
  abbrev StoredAll : List Call → World → M → M
  StoredAll calls w memory = with_all_stored with_stored w.book.count (entries (calls_taken ladders lawful calls w)) memory

  -- a call without an entry has none among those taken
  without_entry : (b : Bool) (c : Call) (more : List Call) → entries_in c ≡ [] → entries (cond b (c ∷ more) more) ≡ entries more
  without_entry true c more none = λ i. none i ++ entries more
  without_entry false c more none = refl

  unstored : (c : Call) (rest : List Call) (w : World) (memory : M) → entries_in c ≡ [] → (after_call ladders lawful c w).book ≡ w.book
      → StoredAll (c ∷ rest) w memory ≡ StoredAll rest (after_call ladders lawful c w) memory
  unstored c rest w memory none same =
      let more = calls_taken ladders lawful rest (after_call ladders lawful c w) in
      λ i. with_all_stored with_stored (sym same i).count (without_entry (is_taken ladders lawful c w) c more none i) memory

  entered : (e : Entry) (rest : List Call) (s : State) (m : Ledger) (memory : M) (r : Result Unit HouseFault)
      → (let more = calls_taken ladders lawful rest (record { state = s; book = moved r (λ _. with_taken m e) m }) in
      with_all_stored with_stored m.count (entries (cond (is_ok (ok_with Done r)) (Enter e ∷ more) more)) memory)
      ≡ StoredAll rest (record { state = s; book = moved r (λ _. with_taken m e) m }) (moved r (λ _. with_stored memory m.count e) memory)
  entered e rest s m memory (Ok u) = refl
  entered e rest s m memory (Err f) = refl

  -- what is stored of a call and the rest is stored of the rest after the call
  stored_more : (c : Call) (rest : List Call) (w : World) (memory : M) → StoredAll (c ∷ rest) w memory
      ≡ StoredAll rest (after_call ladders lawful c w) (memory_after_call with_stored lawful c w memory)
  stored_more (ListCall t) rest w memory = unstored (ListCall t) rest w memory refl refl
  stored_more (Ring b) rest w memory = unstored (Ring b) rest w memory refl refl
  stored_more (Enter e) rest w memory = entered e rest w.state w.book memory (entry_answer lawful w.book e w.state)
  stored_more (SetTheory n value) rest w memory = unstored (SetTheory n value) rest w memory refl refl
  stored_more (SetRuling n value first) rest w memory = unstored (SetRuling n value first) rest w memory refl refl
  stored_more (Settle n edition) rest w memory = unstored (Settle n edition) rest w memory refl refl

  -- one call further in a list of calls, over the same ladders
  pub stored_next : (d : Call) (n : ℕ) (P : ℕ → ℤ → Bool) (calls : List Call) (i : ℕ) (w next : World) (memory then end : M)
      → n ≡ ladders → P ≡ lawful → i < length calls → next ≡ after_call n P (get_or calls i d) w
      → then ≡ memory_after_call with_stored P (get_or calls i d) w memory
      → StoredAll (drop i calls) w memory ≡ end → StoredAll (drop (i + 1) calls) next then ≡ end
  stored_next d n P calls i w next memory then end size prices few is stored so_far =
      (λ j. StoredAll (drop (i + 1) calls) (is j) (stored j))
      ∙ (λ j. StoredAll (drop (i + 1) calls) (after_call (size j) (prices j) (get_or calls i d) w) (memory_after_call with_stored (prices j) (get_or calls i d) w memory))
      ∙ sym (stored_more (get_or calls i d) (drop (i + 1) calls) w memory)
      ∙ sym (at_drop_more (λ cs. StoredAll cs w memory) calls i d few)
      ∙ so_far

-- ---- places for entries

abbrev pub in_places : MutBor (List Entry) → ℕ → Entry → MutBor (List Entry)
in_places slots n e = record slots { now = set slots.now n e }

-- they are set in their order, and the reference stays the same
all_in_places : (n : ℕ) (es : List Entry) (slots : MutBor (List Entry)) → with_all_stored in_places n es slots ≡ record slots { now = sets slots.now n es }
all_in_places n [] slots = refl
all_in_places n (e ∷ es) slots = all_in_places (n + 1) es (in_places slots n e) ∙ ap (λ k. record slots { now = sets (set slots.now n e) k es }) (add-one n)

-- from the first place on they stand before what is left of the places
pub stored_in_places : (es : List Entry) (slots : MutBor (List Entry)) → length es ≤ length slots.now
    → with_all_stored in_places 0 es slots ≡ record slots { now = filled es slots.now }
stored_in_places es slots few =
    let none : 0 + length es ≡ length es = omega arith in
    all_in_places 0 es slots
    ∙ ap (λ xs. record slots { now = xs })
    (sets-eq es slots.now 0 (omega arith) ∙ ap (λ k. es ++ drop k slots.now) none)
