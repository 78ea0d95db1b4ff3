-- What is printed of lines, one after the other.
use Rattle.std.proofs.Common.{◌≡◌, ℕ, ◌<◌, List, [], ◌∷◌, ◌++◌, length, Ok, Err, Result, refl, sym, ap, ◌∙◌, subst, ⊎_elim, arith}
use Rattle.std.specs.List.{AllZip}
use Rattle.std.proofs.lemmas.Bool.{cases_lt}
use Rattle.std.proofs.lemmas.List.{append_assoc, length-take-le}
use Rattle.calls.specs.declared.call.Reply.{Reply}
use Rattle.lines.specs.Spelled.{Parsed}
use Rattle.lines.specs.declared.line_calls.LineCall.{LineCall}
use Rattle.lines.specs.declared.faults.NotRead.{NotRead}
use Rattle.lines.proofs.Writings.{one_reading}
use Rattle.lines.proofs.Neat.{written_short}
use Rattle.answers.specs.Texts.{answer_text}
use Rattle.answers.specs.declared.faults.LineFault.{LineFault}
use Rattle.desk.specs.Desks.{DeskState, line_after, line_answer}
use Rattle.desk.specs.Responses.{LineAnswered}
use Rattle.stream.specs.Held.{first_bytes}
use Rattle.stream.specs.Transcripts.{OneTranscript, IsTranscript, after_lines, transcript}
use Rattle.stream.proofs.Cutting.{held_short}

-- ---- lines after lines

transcript_more : (s : DeskState) (rs qs : List (Result LineCall NotRead)) → transcript s (rs ++ qs) ≡ transcript s rs ++ transcript (after_lines s rs) qs
transcript_more s [] qs = refl
transcript_more s (r ∷ rs) qs =
    ap (λ xs. answer_text (line_answer s r) ++ (10 ∷ xs)) (transcript_more (line_after s r) rs qs)
    ∙ sym (append_assoc (answer_text (line_answer s r)) (10 ∷ transcript (line_after s r) rs) (transcript (after_lines (line_after s r) rs) qs))

after_more : (s : DeskState) (rs qs : List (Result LineCall NotRead)) → after_lines s (rs ++ qs) ≡ after_lines (after_lines s rs) qs
after_more s [] qs = refl
after_more s (r ∷ rs) qs = after_more (line_after s r) rs qs

read_more : (ls ms : List (List ℕ)) (rs qs : List (Result LineCall NotRead)) → AllZip Parsed ls rs → AllZip Parsed ms qs → AllZip Parsed (ls ++ ms) (rs ++ qs)
read_more [] ms [] qs h k = k
read_more [] ms (r ∷ rs) qs h k = absurd h
read_more (l ∷ ls) ms [] qs h k = absurd h
read_more (l ∷ ls) ms (r ∷ rs) qs h k = (h.0, read_more ls ms rs qs h.1 k)

pub transcript_none : (s : DeskState) → IsTranscript s [] [] s
transcript_none s = record { readings = []; read = tt; printed = refl; after = refl }

pub transcript_join : (s t u : DeskState) (ls ms : List (List ℕ)) (out more : List ℕ) → IsTranscript s ls out t → IsTranscript t ms more u → IsTranscript s (ls ++ ms) (out ++ more) u
transcript_join s t u ls ms out more a b =
    let then = subst (λ (v : DeskState). (more ≡ transcript v b.readings) × (u ≡ after_lines v b.readings)) a.after (b.printed, b.after) in
    record {
      readings = a.readings ++ b.readings;
      read = read_more ls ms a.readings b.readings a.read b.read;
      printed = ap (λ xs. xs ++ more) a.printed ∙ ap (λ xs. transcript s a.readings ++ xs) then.0 ∙ sym (transcript_more s a.readings b.readings);
      after = then.1 ∙ sym (after_more s a.readings b.readings);
    }

-- ---- one line

-- a line of more than 200 bytes is read as its first 201 are
parsed_held : (line : List ℕ) (r : Result LineCall NotRead) → Parsed (first_bytes line) r → Parsed line r
parsed_held line r h = ⊎_elim (λ l. long l r h) (λ l. subst (λ xs. Parsed xs r) (held_short line (omega arith)) h) (cases_lt 200 (length line))
  where
    long : 200 < length line → (r : Result LineCall NotRead) → Parsed (first_bytes line) r → Parsed line r
    long l (Ok c) h = absurd (omega (arith, ap length h.1, written_short c h.0, length-take-le 201 line (omega arith)))
    long l (Err e) h = (
      λ c b w. omega (arith, ap length w, written_short c b),
      record {
        long = λ k. h.1.long (omega (arith, length-take-le 201 line (omega arith)));
        short = λ k. absurd (omega arith);
      },
    )

-- what is answered to what is held of a line is answered to the line
pub transcript_held : (line : List ℕ) (s t : DeskState) (out : List ℕ) → IsTranscript s (first_bytes line ∷ []) out t → IsTranscript s (line ∷ []) out t
transcript_held line s t out x = record { readings = x.readings; read = whole x.readings x.read; printed = x.printed; after = x.after }
  where
    whole : (rs : List (Result LineCall NotRead)) → AllZip Parsed (first_bytes line ∷ []) rs → AllZip Parsed (line ∷ []) rs
    whole [] h = absurd h
    whole (r ∷ rs) h = (parsed_held line r h.0, h.1)

pub transcript_line : (line : List ℕ) (s : DeskState) (answer : Result Reply LineFault) (t : DeskState) → LineAnswered line s answer t → IsTranscript s (line ∷ []) (answer_text answer ++ (10 ∷ [])) t
transcript_line line s answer t h = record {
  readings = h.read ∷ [];
  read = (h.parsed, tt);
  printed = ap (λ a. answer_text a ++ (10 ∷ [])) h.answered;
  after = h.after;
}

-- ---- no lines have two transcripts

same_readings : (ls : List (List ℕ)) (rs qs : List (Result LineCall NotRead)) → AllZip Parsed ls rs → AllZip Parsed ls qs → rs ≡ qs
same_readings [] [] [] h k = refl
same_readings [] [] (q ∷ qs) h k = absurd k
same_readings [] (r ∷ rs) qs h k = absurd h
same_readings (l ∷ ls) [] qs h k = absurd h
same_readings (l ∷ ls) (r ∷ rs) [] h k = absurd k
same_readings (l ∷ ls) (r ∷ rs) (q ∷ qs) h k = λ i. one_reading l r q h.0 k.0 i ∷ same_readings ls rs qs h.1 k.1 i

pub one_transcript : OneTranscript
one_transcript = record {
  once = λ s ls out more t u a b.
      let same = same_readings ls a.readings b.readings a.read b.read in
      (a.printed ∙ ap (transcript s) same ∙ sym b.printed, a.after ∙ ap (after_lines s) same ∙ sym b.after);
}
