-- A whole input, piece by piece.
use Rattle.std.proofs.Common.{◌≡◌, ◌≢◌, ℕ, ◌≤◌, ◌⊎◌, List, [], ◌++◌, length, Option, inl, inr, refl, sym, ap, ◌∙◌, subst, arith}
use Rattle.std.specs.Io.KnownBytes.{Consumes, IsAtEnd, Keeps}
use Rattle.std.proofs.KnownBytes.{Appends-trans, Consumes-kept, Consumes-nil, Consumes-trans}
use Rattle.std.proofs.lemmas.List.{append-nil, append_assoc}
use Rattle.std.proofs.lemmas.List.Elements.{All-nil}
use Rattle.book.specs.Ledgers.{Ledger}
use Rattle.desk.specs.Desks.{DeskState, waiting}
use Rattle.stream.specs.Held.{AnsweredUpTo, AnswersSent, AppendsFront, Finished, Flushed, InputClosed, LinesAnswered, PieceAnswered, PieceTaken, View, at_first, first_bytes}
use Rattle.stream.specs.Inputs.{FirstLines, Unbroken, last_line, lines_of}
use Rattle.stream.specs.Served.{Served, ServedInPart}
use Rattle.stream.specs.Transcripts.{IsTranscript}
use Rattle.stream.proofs.Cutting.{lines_split, rest_last}
use Rattle.stream.proofs.Fronts.{all_front, front_join}
use Rattle.stream.proofs.Pieces.{piece_join, piece_none}
use Rattle.stream.proofs.OneTranscript.{transcript_join}

-- so much of the input was read, this is what it led to, and no answer waits
pub record Reached (before after : Option (List ℕ)) (a b : View) : Type 0 where
  pub input : List ℕ
  pub read : Consumes before after input
  pub answered : PieceAnswered a input b
  pub sent : b.unsent ≡ []

pub reached_none : (remaining : Option (List ℕ)) (a : View) → a.unsent ≡ [] → Reached remaining remaining a a
reached_none remaining a none = record { input = []; read = Consumes-nil remaining; answered = piece_none a; sent = none }

-- ---- answers that wait are sent

-- of bytes that wait and those behind them, what goes to the writer then
sent_on : (a b c : Option (List ℕ)) (bytes out waits rest : List ℕ) → AppendsFront a b (bytes ++ out) waits → AppendsFront b c waits rest → AppendsFront a c (bytes ++ out) rest
sent_on a b c bytes out waits rest x y =
    subst (λ xs. AppendsFront a c xs rest) (append-nil (bytes ++ out))
    (front_join a b c (bytes ++ out) [] waits rest x (subst (λ xs. AppendsFront b c xs rest) (sym (append-nil waits)) y))

pub piece_sent : (a b c : View) (piece : List ℕ) → PieceAnswered a piece b → AnswersSent b c → PieceAnswered a piece c
piece_sent a b c piece w f = record {
  out = w.out;
  written = sent_on a.contents b.contents c.contents a.unsent w.out b.unsent c.unsent w.written f.written;
  lines = subst (λ (s : DeskState). LinesAnswered a.desk_state a.held piece w.out s c.held) (sym f.desk_state)
      (subst (λ hs. LinesAnswered a.desk_state a.held piece w.out b.desk_state hs) (sym f.held) w.lines);
}

pub piece_taken : (a b c : View) (piece : List ℕ) → PieceAnswered a piece b → Flushed b c → PieceTaken a piece c
piece_taken a b c piece w f = record { answered = piece_sent a b c piece w f.answers; sent = f.sent }

-- a whole piece is a front of it, behind which nothing is left
pub up_to_end : (a b : View) (piece : List ℕ) → PieceAnswered a piece b → AnsweredUpTo a piece [] b
up_to_end a b piece x = record { front = piece; whole = sym (append-nil piece); answered = x }

pub closed_sent : (a b c : View) → InputClosed a b → AnswersSent b c → InputClosed a c
closed_sent a b c x f = record {
  out = x.out;
  written = sent_on a.contents b.contents c.contents a.unsent x.out b.unsent c.unsent x.written f.written;
  last = λ line h was. subst (IsTranscript a.desk_state (last_line line) x.out) (sym f.desk_state) (x.last line h was);
  held = f.held ∙ x.held;
}

pub finished : (a b c : View) → InputClosed a b → Flushed b c → Finished a c
finished a b c x f = record { closed = closed_sent a b c x f.answers; sent = f.sent }

-- ---- piece after piece

-- one piece more
pub reached_more : (x y z : Option (List ℕ)) (a b c : View) (piece : List ℕ) → Reached x y a b → Consumes y z piece → PieceTaken b piece c → Reached x z a c
reached_more x y z a b c piece r read taken = record {
  input = r.input ++ piece;
  read = Consumes-trans x y z r.input piece r.read read;
  answered = piece_join a b c r.input piece r.answered taken.answered;
  sent = taken.sent;
}

-- the transcript of all lines of an input that has ended
all_lines : (contents : Option (List ℕ)) (m : Ledger) (b d : View) (input : List ℕ) (w : PieceAnswered (at_first contents m) input b) (x : InputClosed b d)
    → IsTranscript (waiting m) (lines_of input) (w.out ++ x.out) d.desk_state
all_lines contents m b d input w x =
    let (lines, rest, split, so_far, held) = w.lines.answers_to [] (All-nil (λ b. b ≢ 10)) refl in
    subst (λ ls. IsTranscript (waiting m) ls (w.out ++ x.out) d.desk_state) (sym (lines_split input lines rest split))
    (transcript_join (waiting m) b.desk_state d.desk_state lines (last_line rest) w.out x.out so_far (x.last rest split.open_end held))

-- the end of the input
pub served_all : (x y z contents : Option (List ℕ)) (m : Ledger) (b d : View) (none : List ℕ)
    → Reached x y (at_first contents m) b → Consumes y z none → none ≡ [] → IsAtEnd z → Finished b d → Served x z contents d.contents m d.desk_state.book
served_all x y z contents m b d none r read is end f =
    let out = r.answered.out ++ f.closed.out in
    record {
      input = r.input;
      out = out;
      desk_state = d.desk_state;
      read = subst (Consumes x z) (ap (λ ys. r.input ++ ys) is ∙ append-nil r.input) (Consumes-trans x y z r.input none r.read read);
      at_end = end;
      written = all_front contents d.contents out d.unsent f.sent (front_join contents b.contents d.contents r.answered.out f.closed.out b.unsent d.unsent r.answered.written f.closed.written);
      is_transcript = all_lines contents m b d r.input r.answered f.closed;
      book = refl;
    }

-- which lines are answered of a line begun and a piece behind it
abbrev pub MoreAnswered : Option (List ℕ) → (s t : DeskState) (begun piece out : List ℕ) → Type 0
MoreAnswered left s t begun piece out =
    (more : List (List ℕ)) × (FirstLines (begun ++ piece) more ⊎ (IsAtEnd left × (more ≡ lines_of (begun ++ piece)))) × IsTranscript s more out t

-- an error in a last piece
served_last : (x y z contents : Option (List ℕ)) (m : Ledger) (b d : View) (piece out : List ℕ)
    → Reached x y (at_first contents m) b → Consumes y z piece → length piece ≤ 8192
    → AppendsFront b.contents d.contents (b.unsent ++ out) d.unsent → length d.unsent ≤ 4193
    → ((begun : List ℕ) → Unbroken begun → b.held ≡ first_bytes begun → MoreAnswered z b.desk_state d.desk_state begun piece out)
    → ServedInPart x z contents d.contents m d.desk_state.book
served_last x y z contents m b d piece out r read short written few then =
    let (ended, begun, split, so_far, held) = r.answered.lines.answers_to [] (All-nil (λ b. b ≢ 10)) refl in
    let (more, first, answered) = then begun split.open_end held in
    let all = all_front contents b.contents r.answered.out b.unsent r.sent r.answered.written in
    let in_part = subst (λ us. AppendsFront b.contents d.contents (us ++ out) d.unsent) r.sent written in
    record {
      earlier = r.input;
      piece = piece;
      ended = ended;
      begun = begun;
      out = r.answered.out;
      between = b.desk_state;
      more = more;
      sent = in_part.front;
      lost = d.unsent;
      desk_state = d.desk_state;
      read = Consumes-trans x y z r.input piece r.read read;
      short = short;
      split = split;
      ended_answered = so_far;
      first = first;
      more_answered = subst (λ xs. IsTranscript b.desk_state more xs d.desk_state) in_part.whole answered;
      written = Appends-trans contents b.contents d.contents r.answered.out in_part.front all in_part.appended;
      few = few;
      book = refl;
    }

-- an error at the end of the input
pub served_to_end : (x y z contents : Option (List ℕ)) (m : Ledger) (b d : View) (none : List ℕ)
    → Reached x y (at_first contents m) b → Consumes y z none → none ≡ [] → IsAtEnd z → length d.unsent ≤ 4193 → InputClosed b d
    → ServedInPart x z contents d.contents m d.desk_state.book
served_to_end x y z contents m b d none r read is end few f =
    served_last x y z contents m b d [] f.out r (subst (Consumes y z) is read) (omega arith) f.written few
    (λ begun h held. (
      last_line begun,
      inr (end, sym (ap lines_of (append-nil begun) ∙ rest_last begun h)),
      f.last begun h held,
    ))

-- an error in a piece
pub served_in_piece : (x y z contents : Option (List ℕ)) (m : Ledger) (b d : View) (piece rest : List ℕ)
    → Reached x y (at_first contents m) b → Consumes y z piece → length piece ≤ 8192 → length d.unsent ≤ 4193 → AnsweredUpTo b piece rest d
    → ServedInPart x z contents d.contents m d.desk_state.book
served_in_piece x y z contents m b d piece rest r read short few p =
    served_last x y z contents m b d piece p.answered.out r read short p.answered.written few
    (λ begun h held.
    let (more, open_line, split, answered, _) = p.answered.lines.answers_to begun h held in (
      more,
      inl (record {
        rest = open_line ++ rest;
        whole =
            ap (λ xs. begun ++ xs) p.whole
            ∙ sym (append_assoc begun p.front rest)
            ∙ ap (λ xs. xs ++ rest) split.whole
            ∙ append_assoc _ open_line rest;
        unbroken = split.unbroken;
      }),
      answered,
    ))

-- an error between two pieces
pub served_so_far : (x y z contents : Option (List ℕ)) (m : Ledger) (b : View) → Reached x y (at_first contents m) b → Keeps y z → ServedInPart x z contents b.contents m b.desk_state.book
served_so_far x y z contents m b r kept =
    served_in_piece x y z contents m b b [] [] r (Consumes-kept y y z [] (Consumes-nil y) kept) (omega arith) (omega (arith, ap length r.sent)) (up_to_end b b [] (piece_none b))
