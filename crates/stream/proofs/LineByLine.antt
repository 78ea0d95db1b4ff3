-- A transcript is one of line after line, and a refused line changes nothing.
use Rattle.std.proofs.Common.{◌≡◌, ℕ, List, [], ◌∷◌, ◌++◌, Ok, Err, IfErr, get_or, take, codes, Result, refl, sym, ap, ◌∙◌, arith}
use Rattle.std.specs.List.{AllZip}
use Rattle.std.proofs.lemmas.List.{append_assoc}
use Rattle.calls.specs.declared.call.Reply.{Reply}
use Rattle.calls.specs.declared.call.Reply.TheVariants.{Done, Listed, Settled}
use Rattle.lines.specs.Spelled.{Parsed}
use Rattle.lines.specs.declared.line_calls.LineCall.{LineCall}
use Rattle.lines.specs.declared.faults.NotRead.{NotRead}
use Rattle.answers.specs.Texts.{answer_text}
use Rattle.answers.specs.declared.faults.LineFault.{LineFault}
use Rattle.desk.specs.Desks.{DeskState, line_after, line_answer}
use Rattle.desk.specs.Responses.{IsRefusal}
use Rattle.desk.proofs.Handing.{refusal_stays}
use Rattle.stream.specs.LineByLine.{FirstAnswered, LineByLine}
use Rattle.stream.specs.Transcripts.{IsTranscript, after_lines, transcript}

first_answered : (s : DeskState) (line : List ℕ) (lines : List (List ℕ)) (out : List ℕ) (t : DeskState) → IsTranscript s (line ∷ lines) out t → FirstAnswered s line lines out t
first_answered s line lines out t h = by h.readings h.read h.printed h.after
  where
    by : (rs : List (Result LineCall NotRead)) → AllZip Parsed (line ∷ lines) rs → out ≡ transcript s rs → t ≡ after_lines s rs → FirstAnswered s line lines out t
    by [] read printed after = absurd read
    by (r ∷ rs) read printed after = record {
      answer = answer_text (line_answer s r) ++ (10 ∷ []);
      rest = transcript (line_after s r) rs;
      between = line_after s r;
      printed = printed ∙ sym (append_assoc (answer_text (line_answer s r)) (10 ∷ []) (transcript (line_after s r) rs));
      first = record { readings = r ∷ []; read = (read.0, tt); printed = refl; after = refl };
      others = record { readings = rs; read = read.1; printed = refl; after = after };
    }

-- the text of a reply does not begin as that of a refusal does
refusal_only : (a : Result Reply LineFault) (more : List ℕ) (P : Type 0) → take 7 (answer_text a ++ more) ≡ codes "refused" → IfErr a (λ f. P) → P
refusal_only (Ok Done) more P e h = absurd (omega (arith, ap (λ xs. get_or xs 0 0) e))
refusal_only (Ok (Listed n)) more P e h = absurd (omega (arith, ap (λ xs. get_or xs 0 0) e))
refusal_only (Ok (Settled n x)) more P e h = absurd (omega (arith, ap (λ xs. get_or xs 0 0) e))
refusal_only (Err f) more P e h = h

line_stays : (s : DeskState) (r : Result LineCall NotRead) → IfErr (line_answer s r) (λ f. line_after s r ≡ s)
line_stays s (Ok c) = refusal_stays s c
line_stays s (Err e) = refl

refused_line : (s : DeskState) (line answer : List ℕ) (t : DeskState) → IsTranscript s (line ∷ []) answer t → IsRefusal answer → t ≡ s
refused_line s line answer t h refusal = by h.readings h.read h.printed h.after
  where
    by : (rs : List (Result LineCall NotRead)) → AllZip Parsed (line ∷ []) rs → answer ≡ transcript s rs → t ≡ after_lines s rs → t ≡ s
    by [] read printed after = absurd read
    by (r ∷ []) read printed after =
        after ∙ refusal_only (line_answer s r) (10 ∷ []) (line_after s r ≡ s) (sym (ap (take 7) printed) ∙ refusal) (line_stays s r)
    by (r ∷ q ∷ rs) read printed after = absurd read.1

pub line_by_line : LineByLine
line_by_line = record { one_by_one = first_answered; refused = refused_line }
