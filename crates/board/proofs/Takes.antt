-- What a board holds after an entry that it did not refuse.
use Rattle.std.proofs.Common.{◌≡◌, ℕ, ◌+◌, ◌≤◌, true, cond, List, Ok, sym, ap, ◌∙◌, arith}
use Rattle.std.proofs.lemmas.Bool.{and_from, cond_both}
use Rattle.book.specs.Bounds.{bounded}
use Rattle.book.specs.Entries.{kind_lawful}
use Rattle.book.specs.Figures.{entered_if, stamp_small}
use Rattle.book.specs.Ledgers.{Lawful, take_after, entered, with_taken, in_range, admission}
use Rattle.book.specs.Windows.{edges}
use Rattle.book.specs.declared.days.Day.{Day}
use Rattle.book.specs.declared.entries.Entry.{Entry}
use Rattle.book.specs.declared.figures.Figures.{Figures}
use Rattle.book.specs.Growth.{bounded_entered, enters, roomy_from}
use Rattle.book.specs.Ranges.{allowed_kind, allowed_stamp, outside_stays}
use Rattle.book.proofs.Taking.{Admitted, admitted, same_reply}
use Rattle.board.specs.Cells.{cell, tabled}

pub record Takes (d : Day) (k n : ℕ) (old new : List Figures) (e : Entry) : Type 0 where
  pub bounds : (s w : ℕ) → bounded (n + 1) (cell new s w) ≡ true
  pub after : tabled d k (n + 1) new ≡ take_after (tabled d k n old) e

-- the day, count and capacity may have been come by in any way
pub takes : (d d' : Day) (k n k' n' : ℕ) (old new : List Figures) (e : Entry) → Lawful (tabled d k n old) → d' ≡ d → n' ≡ n → k' ≡ k → Ok tt ≡ admission d' n' k' e → ((s w : ℕ) → cell new s w ≡ cond (in_range s w) (entered_if s (edges d' w) (cell old s w) e) (cell old s w)) → Takes d k n old new e
takes d d' k n k' n' old new e lawful day count capacity ok entered_everywhere = record {
  bounds = λ s w. ap (λ f. bounded (n + 1) f) (all s w) ∙ bounded_entered n s (edges d w) (cell old s w) e (allowed_kind d e a.lawful) (lawful.bounds s w);
  after = taken ∙ sym a.taken;
}
  where
    a : Admitted (tabled d k n old) e
    a = admitted (tabled d k n old) e (ok ∙ ap (λ x. admission x n' k' e) day ∙ same_reply (tabled d k n old) n' k' e count capacity)

    all : (s w : ℕ) → cell new s w ≡ entered d s w (cell old s w) e
    all s w =
        let sound = and_from (stamp_small e.stamp) (kind_lawful e.kind) (allowed_stamp d e lawful.lawful_day a.lawful) (allowed_kind d e a.lawful) in
        let few : n ≤ 30000 = let room = lawful.room in let most = lawful.most in omega arith in
        entered_everywhere s w
        ∙ ap (λ x. cond (in_range s w) (entered_if s (edges x w) (cell old s w) e) (cell old s w)) day
        ∙ cond_both (in_range s w) _ (cell old s w) (λ f. f ≡ entered d s w (cell old s w) e)
        (λ r. enters s (edges d w) (cell old s w) e sound (roomy_from n (cell old s w) (lawful.bounds s w) few))
        (λ r. sym (outside_stays d s w (cell old s w) e a.lawful r))

    taken : tabled d k (n + 1) new ≡ with_taken (tabled d k n old) e
    taken = λ i. record { day = d; capacity = k; count = n + 1; figures = λ s w. all s w i }
