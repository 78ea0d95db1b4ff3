-- What a tape knows of the entries that it stores: the first n of its places.
use Rattle.std.proofs.Common.{◌≡◌, ℕ, ◌+◌, ◌<◌, ◌≤◌, min, true, List, length, take, set, Ok, sym, ap, ◌∙◌, arith}
use Rattle.std.proofs.lemmas.List.{length-take-le, length_push, take_more_set, length-set}
use Rattle.book.specs.Entries.{allowed}
use Rattle.book.specs.Ledgers.{take_after, admission}
use Rattle.book.specs.Records.{every, recorded}
use Rattle.book.specs.declared.days.Day.{Day}
use Rattle.book.specs.declared.entries.Entry.{Entry}
use Rattle.book.proofs.Folds.{takes_one}
use Rattle.book.proofs.Taking.{same_reply}

pub few_stored : (slots : List Entry) (n : ℕ) → n ≤ length slots → n ≤ 30000 → length (take n slots) ≤ 30000
few_stored slots n held few = let count = length-take-le n slots held in omega arith

-- what a tape stores of an entry that it did not refuse
pub record Stores (d : Day) (slots : List Entry) (n : ℕ) (e : Entry) : Type 0 where
  pub held : n + 1 ≤ length (set slots n e)
  pub allowed : every (allowed d) (take (n + 1) (set slots n e)) ≡ true
  pub after : recorded d (min (length (set slots n e)) 30000) (take (n + 1) (set slots n e)) ≡ take_after (recorded d (min (length slots) 30000) (take n slots)) e

pub stores : (d : Day) (slots : List Entry) (n k : ℕ) (e : Entry) → n ≤ length slots → n ≤ 30000 → every (allowed d) (take n slots) ≡ true → k ≡ min (length slots) 30000 → Ok tt ≡ admission d n k e → Stores d slots n e
stores d slots n k e held few all fit ok =
    let es = take n slots in
    let capacity = min (length slots) 30000 in
    let count = length-take-le n slots held in
    let one = takes_one d capacity es e all (omega arith) (ok ∙ same_reply (recorded d capacity es) n k e (sym count) fit) in
    let room = one.room in
    let more = length_push es e in
    let place : n < length slots = omega arith in
    let kept = length-set slots n e in
    let stored = take_more_set slots n e place in
    record {
      held = omega arith;
      allowed = ap (every (allowed d)) stored ∙ one.allowed;
      after = (λ i. recorded d (min (kept i) 30000) (stored i)) ∙ one.after;
    }
