-- Bytes that a writer gets in part.
use Rattle.std.proofs.Common.{◌≡◌, ℕ, ◌-◌, List, [], ◌++◌, length, take, drop, Option, refl, sym, ap, ◌∙◌, subst}
use Rattle.std.specs.Io.KnownBytes.{Appends, Keeps}
use Rattle.std.proofs.KnownBytes.{Appends-kept, Appends-nil, Appends-trans}
use Rattle.std.proofs.lemmas.List.{append-nil, append_assoc, take-append-drop, take_rest}
use Rattle.stream.specs.Held.{AppendsFront}

-- all of them wait
pub front_none : (contents : Option (List ℕ)) (bytes : List ℕ) → AppendsFront contents contents bytes bytes
front_none contents bytes = record { front = []; whole = refl; appended = Appends-nil contents }

-- the writer gets all of them
pub front_all : (old new : Option (List ℕ)) (bytes rest : List ℕ) → rest ≡ [] → Appends old new bytes → AppendsFront old new bytes rest
front_all old new bytes rest none all = record { front = bytes; whole = sym (ap (λ xs. bytes ++ xs) none ∙ append-nil bytes); appended = all }

-- where none is left, it got all
pub all_front : (old new : Option (List ℕ)) (bytes rest : List ℕ) → rest ≡ [] → AppendsFront old new bytes rest → Appends old new bytes
all_front old new bytes rest none x = subst (Appends old new) (sym (x.whole ∙ ap (λ xs. x.front ++ xs) none ∙ append-nil x.front)) x.appended

-- what was left goes on with more
pub front_join : (a b c : Option (List ℕ)) (bytes more waits rest : List ℕ) → AppendsFront a b bytes waits → AppendsFront b c (waits ++ more) rest → AppendsFront a c (bytes ++ more) rest
front_join a b c bytes more waits rest x y = record {
  front = x.front ++ y.front;
  whole =
      ap (λ xs. xs ++ more) x.whole
      ∙ append_assoc x.front waits more
      ∙ ap (λ xs. x.front ++ xs) y.whole
      ∙ sym (append_assoc x.front y.front rest);
  appended = Appends-trans a b c x.front y.front x.appended y.appended;
}

-- more bytes wait behind those that are left
pub front_more : (a b : Option (List ℕ)) (bytes more rest : List ℕ) → AppendsFront a b bytes rest → AppendsFront a b (bytes ++ more) (rest ++ more)
front_more a b bytes more rest x = front_join a b b bytes more rest (rest ++ more) x (front_none b (rest ++ more))

-- the writer keeps what it has
pub front_kept : (a b c : Option (List ℕ)) (bytes rest : List ℕ) → AppendsFront a b bytes rest → Keeps b c → AppendsFront a c bytes rest
front_kept a b c bytes rest x kept = record { front = x.front; whole = x.whole; appended = Appends-kept a b c x.front x.appended kept }

-- the writer takes some of what is left, as a slice from there on has it
pub front_wrote : (a b c : Option (List ℕ)) (bytes rest : List ℕ) (n : ℕ) → AppendsFront a b bytes rest → Appends b c (take n rest) → AppendsFront a c bytes (take (length rest - n) (drop n rest))
front_wrote a b c bytes rest n x took = record {
  front = x.front ++ take n rest;
  whole =
      x.whole
      ∙ ap (λ xs. x.front ++ xs) (sym (take-append-drop n rest))
      ∙ sym (append_assoc x.front (take n rest) (drop n rest))
      ∙ ap (λ xs. (x.front ++ take n rest) ++ xs) (sym (take_rest rest n));
  appended = Appends-trans a b c x.front (take n rest) x.appended took;
}
