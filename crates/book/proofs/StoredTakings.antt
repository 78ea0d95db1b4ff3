-- What memory that was lent to a book holds after one entry and the rest.
use Rattle.std.proofs.Common.{◌≡◌, ℕ, ◌+◌, ◌<◌, true, false, List, ◌∷◌, drop, length, get_or, is_ok, sym, ap, ◌∙◌, ⊎_elim}
use Rattle.std.proofs.lemmas.List.{at_drop_more}
use Rattle.std.proofs.lemmas.Bool.{cond-false, cond-true}
use Rattle.book.specs.Ledgers.{Ledger, memory_after, take_after, take_answer, with_taken}
use Rattle.book.specs.Takings.{entries_taken, memory_after_all, with_all_stored}
use Rattle.book.specs.declared.entries.Entry.{Entry}
use Rattle.book.proofs.Taking.{taken_or_refused}

module _ {M : Type 0} (with_stored : M → ℕ → Entry → M) where
  -- what is stored of an entry and the rest is stored of the rest after the entry
  stored_more : (m : Ledger) (e : Entry) (es : List Entry) (memory : M)
      → memory_after_all with_stored m (e ∷ es) memory
      ≡ memory_after_all with_stored (take_after m e) es (memory_after with_stored m e memory)
  stored_more m e es memory = ⊎_elim taken refused (taken_or_refused m e)
    where
      rest : List Entry
      rest = entries_taken (take_after m e) es

      taken : (is_ok (take_answer m e) ≡ true) × (take_after m e ≡ with_taken m e)
          → memory_after_all with_stored m (e ∷ es) memory
          ≡ memory_after_all with_stored (take_after m e) es (memory_after with_stored m e memory)
      taken p =
          ap (λ ys. with_all_stored with_stored m.count ys memory) (cond-true (is_ok (take_answer m e)) (e ∷ rest) rest p.0)
          ∙ (λ i. with_all_stored with_stored (sym p.1 i).count rest (sym (cond-true (is_ok (take_answer m e)) (with_stored memory m.count e) memory p.0) i))

      refused : (is_ok (take_answer m e) ≡ false) × (take_after m e ≡ m)
          → memory_after_all with_stored m (e ∷ es) memory
          ≡ memory_after_all with_stored (take_after m e) es (memory_after with_stored m e memory)
      refused p =
          ap (λ ys. with_all_stored with_stored m.count ys memory) (cond-false (is_ok (take_answer m e)) (e ∷ rest) rest p.0)
          ∙ (λ i. with_all_stored with_stored (sym p.1 i).count rest (sym (cond-false (is_ok (take_answer m e)) (with_stored memory m.count e) memory p.0) i))

  -- one entry further in a list
  pub stored_next : (d : Entry) (es : List Entry) (i : ℕ) (m next : Ledger) (memory then end : M)
      → i < length es → next ≡ take_after m (get_or es i d) → then ≡ memory_after with_stored m (get_or es i d) memory
      → memory_after_all with_stored m (drop i es) memory ≡ end → memory_after_all with_stored next (drop (i + 1) es) then ≡ end
  stored_next d es i m next memory then end few is stored so_far =
      (λ j. memory_after_all with_stored (is j) (drop (i + 1) es) (stored j))
      ∙ sym (stored_more m (get_or es i d) (drop (i + 1) es) memory)
      ∙ sym (at_drop_more (λ ys. memory_after_all with_stored m ys memory) es i d few)
      ∙ so_far
