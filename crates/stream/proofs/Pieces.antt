-- A session given one piece after the other.
use Rattle.std.proofs.Common.{◌≡◌, ◌≢◌, ℕ, suc, ◌+◌, ◌-◌, ◌<◌, ◌≤◌, List, [], ◌∷◌, ◌++◌, length, take, drop, get_or, replicate, Ok, Err, Option, Result, refl, sym, ap, ◌∙◌, subst, arith}
use Rattle.std.proofs.lemmas.Bool.{eq-eqb, eqb-true}
use Rattle.std.proofs.lemmas.List.{append-nil, append_assoc, drop-replicate, get_or-take, length-take-le, length_push, take-append-drop, take_all, take_at, take_more}
use Rattle.std.proofs.lemmas.List.Elements.{All-append, All-from_get_or}
use Rattle.memchr.specs.Find.{NoneBefore, Nowhere, Passes, is_byte}
use Rattle.answers.specs.Texts.{answer_text}
use Rattle.answers.specs.declared.faults.LineFault.{LineFault}
use Rattle.desk.specs.Desks.{DeskState}
use Rattle.desk.specs.Responses.{Responded}
use Rattle.stream.specs.Held.{AfterError, AnsweredUpTo, AnswerPrinted, AppendsFront, InputClosed, LineEnded, LinesAnswered, PieceAnswered, View, first_bytes}
use Rattle.stream.specs.Inputs.{Splits, Unbroken, last_line}
use Rattle.stream.specs.Transcripts.{IsTranscript}
use Rattle.stream.proofs.Cutting.{held_more, splits_ended, splits_join, splits_open}
use Rattle.stream.proofs.Fronts.{front_join, front_none}
use Rattle.stream.proofs.OneTranscript.{transcript_held, transcript_join, transcript_line, transcript_none}

-- what follows from what is so after an error
pub after_error_weaker : {P Q : View → Type 0} (b : View) → ((v : View) → P v → Q v) → AfterError b P → AfterError b Q
after_error_weaker b f x = record { lost = x.lost; held = x.held; few = x.few; is_so = f (record { contents = b.contents; unsent = x.lost; desk_state = b.desk_state; held = x.held }) x.is_so }

pub lines_answered_none : (s : DeskState) (old : List ℕ) → LinesAnswered s old [] [] s old
lines_answered_none s old = record {
  answers_to = λ line h is.
      ([], line, subst (λ xs. Splits xs [] line) (sym (append-nil line)) (splits_open line h), transcript_none s, is);
}

pub lines_answered_join : (s t u : DeskState) (a b c piece more out then : List ℕ) → LinesAnswered s a piece out t b → LinesAnswered t b more then u c → LinesAnswered s a (piece ++ more) (out ++ then) u c
lines_answered_join s t u a b c piece more out then f g = record {
  answers_to = λ line h is.
      let x = f.answers_to line h is in
      let y = g.answers_to x.1 x.2.open_end x.4 in (
        x.0 ++ y.0,
        y.1,
        subst (λ xs. Splits xs (x.0 ++ y.0) y.1) (append_assoc line piece more) (splits_join (line ++ piece) more x.0 y.0 x.1 y.1 x.2 y.2),
        transcript_join s t u x.0 y.0 out then x.3 y.3,
        y.4,
      );
}

-- bytes without a newline go on with the line
pub lines_answered_open : (s : DeskState) (old new bytes : List ℕ) → Unbroken bytes → new ≡ first_bytes (old ++ bytes) → LinesAnswered s old bytes [] s new
lines_answered_open s old new bytes other is = record {
  answers_to = λ line h was. (
    [],
    line ++ bytes,
    splits_open (line ++ bytes) (All-append (λ b. b ≢ 10) line bytes h other),
    transcript_none s,
    is ∙ ap (λ l. first_bytes (l ++ bytes)) was ∙ held_more line bytes,
  );
}

-- ---- the bytes printed

-- a text in a buffer of newlines, with the newline behind it
pub newline_behind : (text out : List ℕ) (n : ℕ) → n ≡ length text → n ≤ 96 → out ≡ text ++ drop (length text) (replicate 97 10) → take (n + 1) out ≡ text ++ (10 ∷ [])
newline_behind text out n is short full =
    let rest : List ℕ = replicate (96 - length text) 10 in
    let one : 97 - length text ≡ suc (96 - length text) = omega arith in
    let behind : drop (length text) (replicate 97 10) ≡ 10 ∷ rest = drop-replicate (length text) 97 10 ∙ ap (λ k. replicate k 10) one in
    let size : length (text ++ (10 ∷ [])) ≡ n + 1 = omega (arith, length_push text 10) in
    ap (take (n + 1)) (full ∙ ap (λ xs. text ++ xs) behind ∙ sym (append_assoc text (10 ∷ []) rest))
    ∙ take_at (text ++ (10 ∷ [])) rest (n + 1) size

abbrev written_length : Result ℕ LineFault → ℕ
written_length (Ok n) = n
written_length (Err f) = 0

-- a response to a line, printed with a newline
pub printed_line : (line : List ℕ) (s t : DeskState) (before after : Option (List ℕ)) (old new : List ℕ) (out shown : List ℕ) (r : Result ℕ LineFault) (n : ℕ)
    → Responded line s (replicate 97 10) r out t → r ≡ Ok n → n ≤ 96 → shown ≡ take (n + 1) out → AppendsFront before after (old ++ shown) new
    → AnswerPrinted line s before after old new t
printed_line line s t before after old new out shown r n response ok short is_shown appended =
    let x = response.long (omega arith) in
    let answer = x.0 in
    let y = x.2.long (omega arith) in
    let same : n ≡ length (answer_text answer) = ap written_length (sym ok ∙ y.0) in
    record {
      out = answer_text answer ++ (10 ∷ []);
      written = subst (λ xs. AppendsFront before after (old ++ xs) new) (is_shown ∙ newline_behind (answer_text answer) out n same short y.1) appended;
      is_transcript = transcript_line line s answer t x.1;
    }

-- a held line that is nothing
nothing_held : (line : List ℕ) → first_bytes line ≡ [] → line ≡ []
nothing_held [] e = refl
nothing_held (b ∷ bs) e = absurd (omega (arith, ap length e))

-- a line that stands whole in a piece
pub ended_whole : (a b : View) (bytes : List ℕ) → a.held ≡ [] → b.held ≡ [] → AnswerPrinted bytes a.desk_state a.contents b.contents a.unsent b.unsent b.desk_state → LineEnded a bytes b
ended_whole a b bytes none cleared x = record {
  out = x.out;
  written = x.written;
  is_transcript = λ line was. subst (λ (l : List ℕ). IsTranscript a.desk_state ((l ++ bytes) ∷ []) x.out b.desk_state) (sym (nothing_held line (sym was ∙ none))) x.is_transcript;
  held = cleared;
}

-- a line of which something was held
pub ended_held : (a b : View) (bytes line : List ℕ) → line ≡ first_bytes (a.held ++ bytes) → b.held ≡ [] → AnswerPrinted line a.desk_state a.contents b.contents a.unsent b.unsent b.desk_state → LineEnded a bytes b
ended_held a b bytes line is cleared x = record {
  out = x.out;
  written = x.written;
  is_transcript = λ whole was.
      transcript_held (whole ++ bytes) a.desk_state b.desk_state x.out
      (subst (λ (l : List ℕ). IsTranscript a.desk_state (l ∷ []) x.out b.desk_state) (is ∙ ap (λ l. first_bytes (l ++ bytes)) was ∙ held_more whole bytes) x.is_transcript);
  held = cleared;
}

-- a newline ends a line
piece_ended : (a b : View) (bytes : List ℕ) → Unbroken bytes → LineEnded a bytes b → PieceAnswered a (bytes ++ (10 ∷ [])) b
piece_ended a b bytes other x = record {
  out = x.out;
  written = x.written;
  lines = record {
    answers_to = λ line h was. (
      (line ++ bytes) ∷ [],
      [],
      subst (λ xs. Splits xs ((line ++ bytes) ∷ []) []) (append_assoc line bytes (10 ∷ [])) (splits_ended (line ++ bytes) (All-append (λ b. b ≢ 10) line bytes h other)),
      x.is_transcript line was,
      x.held,
    );
  };
}

-- nothing is printed
unchanged : (a : View) → AppendsFront a.contents a.contents (a.unsent ++ []) a.unsent
unchanged a = subst (λ xs. AppendsFront a.contents a.contents xs a.unsent) (sym (append-nil a.unsent)) (front_none a.contents a.unsent)

-- the input ends behind a newline
pub closed_none : (a : View) → a.held ≡ [] → InputClosed a a
closed_none a none = record {
  out = [];
  written = unchanged a;
  last = λ line h was. subst (λ ls. IsTranscript a.desk_state ls [] a.desk_state) (sym (ap last_line (nothing_held line (sym was ∙ none)))) (transcript_none a.desk_state);
  held = none;
}

-- or within a line
pub closed_line : (a b : View) → (a.held ≡ [] → ⊥) → LineEnded a [] b → InputClosed a b
closed_line a b some x = record {
  out = x.out;
  written = x.written;
  last = λ line h was. one line was (subst (λ (l : List ℕ). IsTranscript a.desk_state (l ∷ []) x.out b.desk_state) (append-nil line) (x.is_transcript line was));
  held = x.held;
}
  where
    one : (line : List ℕ) → a.held ≡ first_bytes line → IsTranscript a.desk_state (line ∷ []) x.out b.desk_state → IsTranscript a.desk_state (last_line line) x.out b.desk_state
    one [] was h = absurd (some was)
    one (c ∷ cs) was h = h

pub piece_none : (a : View) → PieceAnswered a [] a
piece_none a = record { out = []; written = unchanged a; lines = lines_answered_none a.desk_state a.held }

-- where this is held now
abbrev pub holding : View → List ℕ → View
holding a new = record { contents = a.contents; unsent = a.unsent; desk_state = a.desk_state; held = new }

-- bytes without a newline
pub piece_open : (a : View) (new bytes : List ℕ) → Unbroken bytes → new ≡ first_bytes (a.held ++ bytes) → PieceAnswered a bytes (holding a new)
piece_open a new bytes other is = record { out = []; written = unchanged a; lines = lines_answered_open a.desk_state a.held new bytes other is }

pub piece_join : (a b c : View) (piece more : List ℕ) → PieceAnswered a piece b → PieceAnswered b more c → PieceAnswered a (piece ++ more) c
piece_join a b c piece more x y = record {
  out = x.out ++ y.out;
  written = subst (λ xs. AppendsFront a.contents c.contents xs c.unsent) (append_assoc a.unsent x.out y.out)
      (front_join a.contents b.contents c.contents (a.unsent ++ x.out) y.out b.unsent c.unsent x.written y.written);
  lines = lines_answered_join a.desk_state b.desk_state c.desk_state a.held b.held c.held piece more x.out y.out x.lines y.lines;
}

-- ---- a piece, newline by newline

pub up_to_none : (piece : List ℕ) (a : View) → AnsweredUpTo a piece piece a
up_to_none piece a = record { front = []; whole = refl; answered = piece_none a }

-- no newline stands before a place
unbroken_before : (rest : List ℕ) (n : ℕ) → n ≤ length rest → Nowhere (Passes (is_byte 10) rest) 0 n → Unbroken (take n rest)
unbroken_before rest n h none =
    All-from_get_or (λ b. b ≢ 10) (take n rest) 0
    (λ i l is.
    let under : i < n = omega (arith, length-take-le n rest h) in
    none i (omega arith) under (eq-eqb (get_or rest i 0) 10 (sym (get_or-take n rest i 0 under) ∙ is)))

-- as far as the next newline
pub up_to_line : (piece rest : List ℕ) (n : ℕ) (a b c : View) → NoneBefore (Passes (is_byte 10) rest) 0 (length rest) n → Passes (is_byte 10) rest n → AnsweredUpTo a piece rest b → LineEnded b (take n rest) c → AnsweredUpTo a piece (drop (n + 1) rest) c
up_to_line piece rest n a b c first newline p x =
    let bytes = take n rest ++ (10 ∷ []) in
    let high = first.high in
    let up_to : take (n + 1) rest ≡ bytes = take_more rest n 0 high ∙ ap (λ b. take n rest ++ (b ∷ [])) (eqb-true (get_or rest n 0) 10 newline) in
    let unbroken = unbroken_before rest n (omega arith) first.before in
    record {
      front = p.front ++ bytes;
      whole =
          p.whole
          ∙ ap (λ xs. p.front ++ xs) (sym (take-append-drop (n + 1) rest) ∙ ap (λ xs. xs ++ drop (n + 1) rest) up_to)
          ∙ sym (append_assoc p.front bytes (drop (n + 1) rest));
      answered = piece_join a b c p.front bytes p.answered (piece_ended b c (take n rest) unbroken x);
    }

-- and to the end, where none is left
pub up_to_all : (piece rest new : List ℕ) (a b : View) → Nowhere (Passes (is_byte 10) rest) 0 (length rest) → AnsweredUpTo a piece rest b → new ≡ first_bytes (b.held ++ rest) → PieceAnswered a piece (holding b new)
up_to_all piece rest new a b none p is =
    let unbroken : Unbroken rest = subst Unbroken (take_all (length rest) rest (omega arith)) (unbroken_before rest (length rest) (omega arith) none) in
    subst (λ xs. PieceAnswered a xs (holding b new)) (sym p.whole) (piece_join a b (holding b new) p.front rest p.answered (piece_open b new rest unbroken is))
