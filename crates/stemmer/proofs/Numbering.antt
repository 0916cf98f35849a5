-- The loop that writes the places of a text's letters, on plain values. Assumes nothing.
use mathlib.Core.Path.{◌≡◌, refl, sym, ap, ◌∙◌}
use mathlib.Core.List.{List, [], ◌∷◌, ◌++◌, append_assoc, append-nil}
use Prim.Native.Nat.{ℕ, suc, ◌+◌, ◌≤◌, ◌<◌}
use native.Mathlib.Omega.{arith}
use lib.ListN.{length, drop, get_or, set, length-append, length-set}
use lib.Seq.{drop-cons, set_at, append_snoc}
use Rattle.definition.specs.Words.{Word}
use Rattle.utf8.specs.Utf8.{encode1, encode}
use Rattle.utf8.specs.Spelt.{Encodes, Spelt}
use Rattle.utf8.specs.Letters.{Read}
use Rattle.utf8.specs.declared.letters.Letter.{Letter}
use Rattle.utf8.specs.Beside.{at_letters}
use Rattle.utf8.proofs.Text.{encode_one}
use Rattle.utf8.proofs.Places.{size-append}
use Rattle.utf8.proofs.Beside.{at_letters-length, at_letters-more}
use Rattle.utf8.proofs.Ahead as ahead
use Rattle.utf8.proofs.Ahead.{Ahead, Next}

-- The loop's invariant: in front of the numbers stand the places of the letters before i, and behind them the old numbers.
pub record Inv (text beside old : List ℕ) (i : ℕ) (numbers : List ℕ) (count : ℕ) : Type 0 where
  pub to : Ahead text text i
  -- the letters so far
  pub done : Word
  pub split : done ++ to.rest ≡ to.word
  pub sized : i ≡ length (encode done)
  pub counted : count ≡ length done
  pub written : numbers ≡ at_letters done beside ++ drop count old
  pub size : length numbers ≡ length old

pub start : (text beside old : List ℕ) → Spelt text → Inv text beside old 0 old 0
unfolding encode at_letters
start text beside old s = record { to = ahead.start text s.word s.encodes; done = []; split = refl; sized = refl; counted = refl; written = refl; size = refl }

module _ {text beside old : List ℕ} {i : ℕ} {numbers : List ℕ} {count : ℕ} (v : Inv text beside old i numbers count) where
  -- one turn: the letter at i is read as l
  module _ (h : i < length text) where
    abbrev next : Next text i (length text) v.to.rest
    next = ahead.next v.to h

    pub in_numbers : ((cs : Word) → Encodes text cs → length cs ≤ length old) → count < length numbers
    in_numbers fits =
        let m = fits v.to.word v.to.whole in
        omega (arith, v.counted, v.size, ap length v.split, length-append v.done v.to.rest, ap length next.is)

    module _ (l : Letter) (g : Read text i l) (room : count < length numbers) where
      is : (l.code ≡ next.c) × (l.width ≡ length (encode1 next.c))
      is = ahead.read_is v.to h l g

      pub turn : Inv text beside old (i + l.width) (set numbers count (get_or beside i 0)) (count + 1)
      turn =
          let p : ℕ = get_or beside i 0 in
          let a : List ℕ = at_letters v.done beside in
          let n : count + 1 ≡ suc count = omega arith in
          let long : length a ≡ count = at_letters-length v.done beside ∙ sym v.counted in
          let behind : List ℕ = drop (suc count) old in
          record {
            to = ahead.past v.to next text (i + l.width) (ap (λ (x : ℕ). i + x) is.1) refl;
            done = v.done ++ (next.c ∷ []);
            split = append_assoc v.done (next.c ∷ []) next.t ∙ ap (λ (w : Word). v.done ++ w) (sym next.is) ∙ v.split;
            sized = omega (arith, is.1, v.sized, size-append v.done (next.c ∷ []), ap length (encode_one next.c));
            counted = omega (arith, v.counted, length-append v.done (next.c ∷ []));
            written =
                ap (λ (xs : List ℕ). set xs count p) (v.written ∙ ap (λ (xs : List ℕ). a ++ xs) (drop-cons old count 0 (omega (arith, v.size))))
                ∙ set_at a (get_or old count 0) behind p count long
                ∙ sym (append_snoc a p behind)
                ∙ (λ j. sym (at_letters-more v.done next.c p beside beside refl (ap (λ (k : ℕ). get_or beside k 0) (sym v.sized))) j ++ drop (sym n j) old);
            size = length-set numbers count p ∙ v.size;
          }

  pub done_all : length text ≤ i → (cs : Word) → Encodes text cs → numbers ≡ at_letters cs beside ++ drop (length cs) old
  done_all l cs e =
      let all : v.done ≡ cs = sym (append-nil v.done) ∙ ap (λ (w : Word). v.done ++ w) (sym (ahead.none_left v.to l)) ∙ v.split ∙ ahead.only v.to cs e in
      v.written ∙ (λ j. at_letters (all j) beside ++ drop ((v.counted ∙ ap length all) j) old)
