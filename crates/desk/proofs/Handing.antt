-- A call handed to the house of a desk.
use Rattle.std.proofs.Common.{◌≡◌, false, is_ok, Some, None, Option, Ok, Err, IfErr, Result, refl}
use Rattle.std.proofs.lemmas.Bool.{cond-false}
use Rattle.book.specs.Ledgers.{Ledger}
use Rattle.ladders.specs.Made.{even_prices, size_of}
use Rattle.ladders.specs.declared.sets.SetOf.{SetOf}
use Rattle.ladders.specs.declared.ticks.Tick.{Tick}
use Rattle.house.specs.Houses.{set_of}
use Rattle.house.specs.declared.faults.HouseFault.{HouseFault}
use Rattle.house.specs.declared.houses.House.{House}
use Rattle.calls.specs.Worlds.{after_call, reply, world}
use Rattle.calls.specs.declared.call.Call.{Call}
use Rattle.calls.specs.declared.call.Reply.{Reply}
use Rattle.calls.proofs.Refusals.{refused_stays}
use Rattle.lines.specs.declared.line_calls.LineCall.{LineCall}
use Rattle.lines.specs.declared.line_calls.LineCall.TheVariants as line_calls
use Rattle.desk.specs.Desks.{Begun, DeskState, begun_by, by_house, call_after, call_answer, day_answer, day_begun, desk_after, desk_answer, house_after, waiting, world_of}

-- a desk with this house
abbrev with_house : {bound : _} → House (SetOf Tick) bound → Ledger → DeskState
with_house h m = record { begun = Some (begun_by h); book = m }

-- what stands after the house has taken or refused a call
pub handed : {bound : _} (h k : House (SetOf Tick) bound) (m n : Ledger) (c : Call) → world k n ≡ after_call (begun_by h).ladders (begun_by h).lawful c (world h m) → set_of k ≡ set_of h → with_house k n ≡ house_after (begun_by h) m c
handed h k m n c after set = λ i. record {
  begun = Some (record { ladders = size_of (set i); lawful = even_prices (set i); state = (after i).state });
  book = (after i).book;
}

-- ---- a refused call changes nothing

-- what is refused has no reply
none_taken : {A E : Type 0} (r : Result A E) (P : Type 0) → (is_ok r ≡ false → P) → IfErr r (λ f. P)
none_taken (Ok a) P p = tt
none_taken (Err f) P p = p refl

house_refusal : (r : Result Reply HouseFault) (P : Type 0) → (is_ok r ≡ false → P) → IfErr (by_house r) (λ f. P)
house_refusal (Ok a) P p = tt
house_refusal (Err f) P p = p refl

pub refusal_stays : (s : DeskState) (c : LineCall) → IfErr (call_answer s c) (λ f. call_after s c ≡ s)
refusal_stays s c = stays s.begun s.book c
  where
    stays : (o : Option Begun) (m : Ledger) (c : LineCall) → IfErr (desk_answer o m c) (λ f. desk_after o m c ≡ record { begun = o; book = m })
    stays None m (line_calls.Day d ticks) = none_taken (day_answer d ticks) _ (λ h. cond-false (is_ok (day_answer d ticks)) (day_begun d ticks m) (waiting m) h)
    stays None m (line_calls.Call c) = refl
    stays (Some b) m (line_calls.Day d ticks) = refl
    stays (Some b) m (line_calls.Call c) =
        house_refusal (reply b.ladders b.lawful c (world_of b m)) _
        (λ h i. record {
          begun = Some (record { ladders = b.ladders; lawful = b.lawful; state = (refused_stays b.ladders b.lawful c (world_of b m) h i).state });
          book = (refused_stays b.ladders b.lawful c (world_of b m) h i).book;
        })
