-- The places beside what normalising writes: of a letter's own, of a run filled with one place, and of all letters in turn. Assumes nothing.
use mathlib.Core.Path.{◌≡◌, refl, sym, ap, ◌∙◌}
use mathlib.Core.List.{List, [], ◌∷◌, ◌++◌}
use Prim.Native.Nat.{ℕ, ◌+◌, ◌≤◌, ◌<◌}
use native.Mathlib.Omega.{arith}
use borrow.Rule.Slice.PartMut.{put_mid}
use lib.ListN.{length, take, drop, get_or, replicate, length-replicate, get_or-replicate, get_or-append}
use lib.Seq.{length-take-le, length-paste, get_or-append-add, get_or-drop}
use Rattle.std.proofs.lemmas.Slice.{put_mid-paste, take-put_mid_below}
use mathlib.Core.Bool.{true}
use Rattle.definition.specs.Words.{Word, every}
use Rattle.definition.specs.Facts.{plain_letter}
use Rattle.definition.proofs.Match.{both_0, both_1}
use Rattle.definition.proofs.Passed.{plain-normal}
use Rattle.definition.specs.Normal.{normal}
use Rattle.utf8.specs.Utf8.{encode1}
use Rattle.utf8.specs.Places.{size}
use Rattle.utf8.specs.Beside.{at_letters}
use Rattle.utf8.proofs.Text.{encode1_pos}
use Rattle.utf8.proofs.Ahead.{cons_size}
use Rattle.utf8.proofs.Beside.{at_letters-joined, at_letters-front}
use Rattle.places.specs.Places.{Typed, letters_of, places_of, each_at, normal_places}

-- where ps stands beside the bytes of w, the places of what normalising gives
unfoldable pub normal_beside : Word → List ℕ → List ℕ
normal_beside [] ps = []
normal_beside (c ∷ w) ps = each_at (get_or ps 0 0) (normal c) ++ normal_beside w (drop (length (encode1 c)) ps)

-- they are those of the definition
pub beside_is : (ts : List Typed) (ps : List ℕ) → at_letters (letters_of ts) ps ≡ places_of ts → normal_beside (letters_of ts) ps ≡ normal_places ts
unfolding at_letters letters_of places_of normal_beside normal_places
beside_is [] ps e = refl
beside_is (t ∷ ts) ps e =
    let h : get_or ps 0 0 ≡ t.place = cc in
    let r : at_letters (letters_of ts) (drop (length (encode1 t.letter)) ps) ≡ places_of ts = cc in
    (λ i. each_at (h i) (normal t.letter) ++ beside_is ts (drop (length (encode1 t.letter)) ps) r i)

-- the letters of w beside which p alone stands
pub all_at_one : (w : Word) (p : ℕ) (ps : List ℕ) → ((k : ℕ) → k < size w → get_or ps k 0 ≡ p) → at_letters w ps ≡ each_at p w
unfolding at_letters each_at
all_at_one [] p ps f = refl
all_at_one (c ∷ w) p ps f =
    let n : ℕ = length (encode1 c) in
    let l = cons_size c w in
    let pos = encode1_pos c in
    (λ i. f 0 (omega arith) i ∷ all_at_one w p (drop n ps) (λ k h. get_or-drop n ps k 0 ∙ f (n + k) (omega arith)) i)

-- new is old with p beside the letters of u, which are written behind the letters of done
pub record Marked (old : List ℕ) (at : ℕ) (u : Word) (p : ℕ) (new : List ℕ) : Type 0 where
  pub kept : take at new ≡ take at old
  pub given : at_letters u (drop at new) ≡ each_at p u

pub marked_more : (old new : List ℕ) (done u : Word) (p : ℕ) → Marked old (size done) u p new → at_letters (done ++ u) new ≡ at_letters done old ++ each_at p u
marked_more old new done u p m =
    at_letters-joined done u new
    ∙ (λ i. at_letters-front done new old (size done) (omega arith) m.kept i ++ m.given i)

-- of plain letters each gives itself
pub plain_places : (ts : List Typed) → every plain_letter (letters_of ts) ≡ true → normal_places ts ≡ places_of ts
unfolding letters_of places_of normal_places each_at
plain_places [] h = refl
plain_places (t ∷ ts) h =
    (λ i. each_at t.place (plain-normal t.letter (both_0 (plain_letter t.letter) _ h) i) ++ plain_places ts (both_1 (plain_letter t.letter) _ h) i)

-- k numbers from the place at on filled with p
module _ (at k p : ℕ) (xs ys : List ℕ) (e : ys ≡ replicate k p) (h : at + k ≤ length xs) where
  as_many : length ys ≡ k
  as_many = ap length e ∙ length-replicate k p

  pub filled-length : length (put_mid at k xs ys) ≡ length xs
  filled-length = ap length (put_mid-paste at k xs ys ys k refl refl (sym as_many)) ∙ length-paste xs at ys k h (omega (arith, as_many))

  pub filled-front : take at (put_mid at k xs ys) ≡ take at xs
  filled-front = take-put_mid_below at k xs ys at (omega arith) (omega arith)

  pub filled_at : (j : ℕ) → j < k → get_or (put_mid at k xs ys) (at + j) 0 ≡ p
  filled_at j l =
      let n : at + j ≡ length (take at xs) + j = omega (arith, length-take-le at xs (omega arith)) in
      ap (λ (i : ℕ). get_or (put_mid at k xs ys) i 0) n
      ∙ get_or-append-add (take at xs) _ j 0
      ∙ get_or-append ys _ 0 j (omega (arith, as_many))
      ∙ ap (λ (l : List ℕ). get_or l j 0) e
      ∙ get_or-replicate k j p 0 l
