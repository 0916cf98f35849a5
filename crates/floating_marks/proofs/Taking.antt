-- The loop that copies a word without its marks, on plain values. Assumes nothing.
use mathlib.Core.Path.{◌≡◌, refl, sym, ap, ◌∙◌}
use mathlib.Core.Bool.{Bool, true, false}
use mathlib.Core.List.{List, [], ◌∷◌, ◌++◌, append_assoc, append-nil}
use Prim.Native.Nat.{ℕ, ◌+◌, ◌≤◌, ◌<◌}
use native.Mathlib.Omega.{arith}
use lib.ListN.{length, take, get_or, set, length-set}
use lib.Seq.{take-set-le, get_or-set_same}
use Rattle.definition.specs.Words.{Word, pick}
use Rattle.definition.specs.Floating.{floating, unmarked}
use Rattle.utf8.specs.Utf8.{encode1, encode}
use Rattle.utf8.specs.Letters.{Read, Wrote}
use Rattle.utf8.specs.Spelt.{Encodes, Spelt}
use Rattle.utf8.specs.declared.letters.Letter.{Letter}
use Rattle.utf8.specs.Beside.{at_letters}
use Rattle.utf8.proofs.Text.{encode_one, encode-append}
use Rattle.utf8.proofs.Places.{size-append}
use Rattle.utf8.proofs.Beside.{at_letters-more}
use Rattle.utf8.proofs.ReadLetter.{scalar_top}
use Rattle.places.specs.Places.{Typed, typed_at, typed_from, typed, places_of, marks_out}
use Rattle.utf8.proofs.Ahead as ahead
use Rattle.utf8.proofs.Ahead.{Ahead, Next}
use Rattle.floating_marks.specs.Marked.{TakenOut}

-- The loop's invariant: the first `at` bytes of out are those of the letters before i, without the marks, and beside stand their places.
pub record Inv (text : List ℕ) (room much : ℕ) (i : ℕ) (out : List ℕ) (at : ℕ) (places : List ℕ) : Type 0 where
  pub to : Ahead text text i
  -- the letters so far
  pub kept : Word
  pub bytes : take at out ≡ encode kept
  pub sized : at ≡ length (encode kept)
  pub split : kept ++ unmarked to.rest ≡ unmarked to.word
  pub placed : at_letters kept places ++ places_of (marks_out (typed_from i to.rest)) ≡ places_of (marks_out (typed to.word))
  pub bound : at ≤ i
  pub size : length out ≡ room
  pub beside : length places ≡ much

pub start : (text : List ℕ) (room much : ℕ) (out places : List ℕ) → Spelt text → length out ≡ room → length places ≡ much → Inv text room much 0 out 0 places
unfolding encode at_letters typed
start text room much out places s z y =
    record { to = ahead.start text s.word s.encodes; kept = []; bytes = refl; sized = refl; split = refl; placed = refl; bound = omega arith; size = z; beside = y }

module _ {text : List ℕ} {room much i : ℕ} {out : List ℕ} {at : ℕ} {places : List ℕ} (v : Inv text room much i out at places) where
  -- one turn: the letter at i is read as l
  module _ (h : i < length text) (l : Letter) (g : Read text i l) where
    abbrev next : Next text i (length text) v.to.rest
    next = ahead.next v.to h

    is : (l.code ≡ next.c) × (l.width ≡ length (encode1 next.c))
    is = ahead.read_is v.to h l g

    pub code_top : l.code < 0x110000
    code_top = omega (arith, is.0, scalar_top next.c next.at.0)

    pub fits : length text ≤ room → at + length (encode1 l.code) ≤ room
    fits m = omega (arith, ap (λ (x : ℕ). length (encode1 x)) is.0, next.ends, v.bound)

    pub in_places : length text ≤ much → at < length places
    in_places m = omega (arith, v.bound, v.beside)

    -- b tells whether it is a mark
    module _ (b : Bool) (f : b ≡ floating l.code) where
      rest-letters : unmarked v.to.rest ≡ pick b (unmarked next.t) (next.c ∷ unmarked next.t)
      unfolding unmarked
      rest-letters = ap unmarked next.is ∙ ap (λ (x : Bool). pick x (unmarked next.t) (next.c ∷ unmarked next.t)) (sym (f ∙ ap floating is.0))

      -- the typed letters behind it
      abbrev more : List Typed
      more = marks_out (typed_from (i + l.width) next.t)

      rest-typed : marks_out (typed_from i v.to.rest) ≡ pick b (marks_out (typed_from (i + l.width) next.t)) (typed_at next.c i ∷ marks_out (typed_from (i + l.width) next.t))
      unfolding marks_out typed_from
      rest-typed =
          ap (λ (w : Word). marks_out (typed_from i w)) next.is
          ∙ (λ j. let tail : List Typed = marks_out (typed_from (i + sym is.1 j) next.t) in pick ((sym (f ∙ ap floating is.0)) j) tail (typed_at next.c i ∷ tail))

      -- a mark is passed
      pub mark_turn : b ≡ true → Inv text room much (i + l.width) out at places
      mark_turn e = record {
        to = ahead.past v.to next text (i + l.width) (ap (λ (x : ℕ). i + x) is.1) refl;
        kept = v.kept;
        bytes = v.bytes;
        sized = v.sized;
        split = ap (λ (w : Word). v.kept ++ w) (sym (rest-letters ∙ ap (λ (x : Bool). pick x (unmarked next.t) (next.c ∷ unmarked next.t)) e)) ∙ v.split;
        placed =
            ap (λ (ts : List Typed). at_letters v.kept places ++ places_of ts) (sym (rest-typed ∙ ap (λ (x : Bool). pick x more (typed_at next.c i ∷ more)) e))
            ∙ v.placed;
        bound = omega (arith, v.bound);
        size = v.size;
        beside = v.beside;
      }

      -- and any other letter is written, with its place beside it
      pub letter_turn : b ≡ false → (r : ℕ) (new : List ℕ) → Wrote out at (encode1 l.code) new r → at < length places → Inv text room much (i + l.width) new r (set places at i)
      unfolding places_of
      letter_turn e r new u h = record {
        to = ahead.past v.to next text (i + l.width) (ap (λ (x : ℕ). i + x) is.1) refl;
        kept = v.kept ++ (next.c ∷ []);
        bytes = u.bytes ∙ (λ j. v.bytes j ++ (ap encode1 is.0 ∙ sym (encode_one next.c)) j) ∙ sym (encode-append v.kept (next.c ∷ []));
        sized = omega (arith, u.end, v.sized, size-append v.kept (next.c ∷ []), ap length (encode_one next.c), ap (λ (x : ℕ). length (encode1 x)) is.0);
        split =
            append_assoc v.kept (next.c ∷ []) (unmarked next.t)
            ∙ ap (λ (w : Word). v.kept ++ w) (sym (rest-letters ∙ ap (λ (x : Bool). pick x (unmarked next.t) (next.c ∷ unmarked next.t)) e))
            ∙ v.split;
        placed =
            ap (λ (x : List ℕ). x ++ places_of more)
            (at_letters-more v.kept next.c i places (set places at i)
            (ap (λ (n : ℕ). take n (set places at i)) (sym v.sized) ∙ take-set-le at places at i (omega arith) ∙ ap (λ (n : ℕ). take n places) v.sized)
            (ap (λ (n : ℕ). get_or (set places at i) n 0) (sym v.sized) ∙ get_or-set_same places at i 0 h))
            ∙ append_assoc (at_letters v.kept places) (i ∷ []) (places_of more)
            ∙ ap (λ (ts : List Typed). at_letters v.kept places ++ places_of ts) (sym (rest-typed ∙ ap (λ (x : Bool). pick x more (typed_at next.c i ∷ more)) e))
            ∙ v.placed;
        bound = omega (arith, v.bound, u.end, is.1, ap (λ (x : ℕ). length (encode1 x)) is.0);
        size = u.size ∙ v.size;
        beside = length-set places at i ∙ v.beside;
      }

  pub done : length text ≤ room → length text ≤ i → (cs : Word) → Encodes text cs → TakenOut cs out places at
  unfolding unmarked encode typed_from marks_out places_of
  done m l cs e =
      let none : v.to.rest ≡ [] = ahead.none_left v.to l in
      let word : v.to.word ≡ cs = ahead.only v.to cs e in
      let all : v.kept ≡ unmarked cs = sym (append-nil v.kept) ∙ ap (λ (w : Word). v.kept ++ unmarked w) (sym none) ∙ v.split ∙ ap unmarked word in
      record {
        bytes = v.bytes ∙ ap encode all;
        sized = v.sized ∙ ap (λ (w : Word). length (encode w)) all;
        within = omega (arith, v.bound, v.to.ends, v.size);
        placed =
            ap (λ (w : Word). at_letters w places) (sym all)
            ∙ sym (append-nil (at_letters v.kept places))
            ∙ ap (λ (w : Word). at_letters v.kept places ++ places_of (marks_out (typed_from i w))) (sym none)
            ∙ v.placed
            ∙ ap (λ (w : Word). places_of (marks_out (typed w))) word;
      }
