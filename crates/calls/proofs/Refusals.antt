-- Calls that were taken, and calls that were refused.
use Rattle.std.proofs.Common.{◌≡◌, ℕ, Bool, true, false, ℤ, is_ok, Ok, Err, Result, sym, refl, ap, ◌∙◌}
use Rattle.std.proofs.lemmas.Bool.{true≢false}
use Rattle.book.specs.Ledgers.{Ledger, with_taken}
use Rattle.house.specs.Calls.{State, entry_answer, listed_terms, moved, ruling_answer, rung, theory_answer, ok_with}
use Rattle.house.specs.declared.faults.HouseFault.{HouseFault}
use Rattle.calls.specs.Worlds.{World, as_listed, is_taken, after_call}
use Rattle.calls.specs.declared.call.Call.{Call}
use Rattle.calls.specs.declared.call.Call.TheVariants.{List as ListCall, Ring, Enter, SetTheory, SetRuling, Settle}

-- ---- an answer wrapped up is refused where the answer is

pub ok_with_ok : {A C : Type 0} (c : C) (r : Result A HouseFault) → is_ok (ok_with c r) ≡ is_ok r
ok_with_ok c (Ok a) = refl
ok_with_ok c (Err f) = refl

pub listed_ok : {A : Type 0} (n : ℕ) (r : Result A HouseFault) → is_ok (as_listed (ok_with n r)) ≡ is_ok r
listed_ok n (Ok a) = refl
listed_ok n (Err f) = refl

-- ---- what was found, or that nothing moved

pub ok_value : {A E : Type 0} (r : Result A E) → is_ok r ≡ true → (a : A) × (r ≡ Ok a)
ok_value (Ok a) h = (a, refl)
ok_value (Err f) h = absurd (true≢false (sym h))

stays : {A S : Type 0} (r : Result A HouseFault) (move : A → S) (s : S) → is_ok r ≡ false → moved r move s ≡ s
stays (Ok a) move s h = absurd (true≢false h)
stays (Err f) move s h = refl

-- a refused call leaves the house and the book as they were
pub refused_stays : (ladders : ℕ) (lawful : ℕ → ℤ → Bool) (c : Call) (w : World) → is_taken ladders lawful c w ≡ false
    → after_call ladders lawful c w ≡ w
refused_stays ladders lawful (ListCall t) w h =
    let r = listed_terms ladders t w.state in
    ap (λ (s : State). record { state = s; book = w.book }) (stays r _ w.state (sym (listed_ok w.state.roll.count r) ∙ h))
refused_stays ladders lawful (Ring b) w h =
    let r = rung w.state.phase b in
    ap (λ (s : State). record { state = s; book = w.book })
    (stays r _ w.state (sym (ok_with_ok tt r) ∙ sym (ok_with_ok _ (ok_with tt r)) ∙ h))
refused_stays ladders lawful (Enter e) w h =
    let r = entry_answer lawful w.book e w.state in
    ap (λ (m : Ledger). record { state = w.state; book = m })
    (stays r (λ _. with_taken w.book e) w.book (sym (ok_with_ok _ r) ∙ h))
refused_stays ladders lawful (SetTheory n value) w h =
    let r = theory_answer n value w.state in
    ap (λ (s : State). record { state = s; book = w.book }) (stays r _ w.state (sym (ok_with_ok _ r) ∙ h))
refused_stays ladders lawful (SetRuling n value first) w h =
    let r = ruling_answer n value first w.state in
    ap (λ (s : State). record { state = s; book = w.book }) (stays r _ w.state (sym (ok_with_ok _ r) ∙ h))
refused_stays ladders lawful (Settle n edition) w h = refl
