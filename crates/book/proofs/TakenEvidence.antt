-- The figures of a new book, after entries were handed to it, are evidence of those that it took.
use Rattle.std.proofs.Common.{◌≡◌, ℕ, true, false, List, [], ◌∷◌, ◌++◌, is_ok, sym, ap, ◌∙◌, subst, ⊎_elim}
use Rattle.std.proofs.lemmas.List.{append_assoc, append-nil}
use Rattle.std.proofs.lemmas.Bool.{cond-false, cond-true}
use Rattle.book.specs.Evidence.{Evidence}
use Rattle.book.specs.Ledgers.{Ledger, take_after, take_answer, fresh, with_taken}
use Rattle.book.specs.Records.{recorded}
use Rattle.book.specs.Takings.{after_all, entries_taken}
use Rattle.book.specs.declared.days.Day.{Day}
use Rattle.book.specs.declared.entries.Entry.{Entry}
use Rattle.book.proofs.Folds.{recorded_push}
use Rattle.book.proofs.Taking.{taken_or_refused}
use Rattle.book.proofs.RecordedEvidence.{evidence}

-- a book of the entries xs, handed the entries es, means what xs and those taken of es do
abbrev Recorded : Day → ℕ → List Entry → List Entry → Type 0
Recorded d k xs es = after_all (recorded d k xs) es ≡ recorded d k (xs ++ entries_taken (recorded d k xs) es)

one_taken : (d : Day) (k : ℕ) (xs es : List Entry) (e : Entry) → is_ok (take_answer (recorded d k xs) e) ≡ true → take_after (recorded d k xs) e ≡ with_taken (recorded d k xs) e → Recorded d k (xs ++ (e ∷ [])) es → Recorded d k xs (e ∷ es)
one_taken d k xs es e ok is whole =
    let m = recorded d k xs in
    let more : take_after m e ≡ recorded d k (xs ++ (e ∷ [])) = is ∙ sym (recorded_push d k xs e) in
    ap (λ n. after_all n es) more
    ∙ whole
    ∙ ap (recorded d k) (append_assoc xs (e ∷ []) (entries_taken (recorded d k (xs ++ (e ∷ []))) es))
    ∙ ap (λ n. recorded d k (xs ++ (e ∷ entries_taken n es))) (sym more)
    ∙ ap (λ ys. recorded d k (xs ++ ys)) (sym (cond-true (is_ok (take_answer m e)) (e ∷ entries_taken (take_after m e) es) (entries_taken (take_after m e) es) ok))

one_refused : (d : Day) (k : ℕ) (xs es : List Entry) (e : Entry) → is_ok (take_answer (recorded d k xs) e) ≡ false → take_after (recorded d k xs) e ≡ recorded d k xs → Recorded d k xs es → Recorded d k xs (e ∷ es)
one_refused d k xs es e ok is whole =
    let m = recorded d k xs in
    ap (λ n. after_all n es) is
    ∙ whole
    ∙ ap (λ n. recorded d k (xs ++ entries_taken n es)) (sym is)
    ∙ ap (λ ys. recorded d k (xs ++ ys)) (sym (cond-false (is_ok (take_answer m e)) (e ∷ entries_taken (take_after m e) es) (entries_taken (take_after m e) es) ok))

recorded_all : (d : Day) (k : ℕ) (xs es : List Entry) → Recorded d k xs es
recorded_all d k xs [] = ap (recorded d k) (sym (append-nil xs))
recorded_all d k xs (e ∷ es) =
    ⊎_elim
    (λ p. one_taken d k xs es e p.0 p.1 (recorded_all d k (xs ++ (e ∷ [])) es))
    (λ p. one_refused d k xs es e p.0 p.1 (recorded_all d k xs es))
    (taken_or_refused (recorded d k xs) e)

since_new : (m then : Ledger) (es : List Entry) → then ≡ after_all m es → (d : Day) (k : ℕ) → m ≡ fresh d k → Evidence then (entries_taken (fresh d k) es)
since_new m then es is d k new =
    let whole : recorded d k (entries_taken (fresh d k) es) ≡ then = sym (is ∙ ap (λ n. after_all n es) new ∙ recorded_all d k [] es) in
    subst (λ (n : Ledger). Evidence n (entries_taken (fresh d k) es)) whole (evidence d k (entries_taken (fresh d k) es))

pub evidence_of_taken : (m then : Ledger) (es : List Entry) → then ≡ after_all m es → (d : Day) (k : ℕ) → m ≡ fresh d k → Evidence then (entries_taken m es)
evidence_of_taken m then es is d k new =
    subst (λ (b : Ledger). Evidence then (entries_taken b es)) (sym new) (since_new m then es is d k new)
