-- The two ranges of plain letters in bytes. Assumes nothing.
use mathlib.Core.Path.{◌≡◌, refl, sym, ap, ◌∙◌, subst}
use mathlib.Core.Bool.{Bool, true, false}
use mathlib.Core.Logic.{⊎_elim, inl, inr}
use mathlib.Core.List.{List}
use Prim.Native.Nat.{ℕ, ◌+◌, ◌≤◌}
use native.Mathlib.Omega.{arith}
use lib.ListN.{length, take, drop, get_or}
use lib.Seq.{take_at}
use Rattle.std.specs.Prelude.{◌↔◌, IsTrue}
use Rattle.definition.specs.Facts.{plain_letter}
use Rattle.definition.proofs.Match.{by, clash}
use Rattle.definition.proofs.Passed.{InRanges, ranges_of, plain_of}
use Rattle.utf8.specs.Utf8.{encode1}
use Rattle.utf8.specs.Letters.{LetterAt, SomeLetter, Wrote}
use Rattle.utf8.proofs.ReadLetter.{Two, two, bytes_2, room_2}
use Rattle.plain_letters.specs.Telling.{Tells}

-- ---- tests that hold in the same cases

same_truth : (a b : Bool) → (a ≡ true → b ≡ true) → (b ≡ true → a ≡ true) → a ≡ b
same_truth true b f g = sym (f refl)
same_truth false b f g = by b (λ e. absurd (clash (g e) refl)) sym

not_plain : (c : ℕ) → (InRanges c → ⊥) → false ≡ plain_letter c
not_plain c n = by (plain_letter c) (λ e. absurd (n (ranges_of c e))) sym

-- ---- the letter c at the byte i of text
module _ (text : List ℕ) (i c : ℕ) (t : List ℕ) (l : LetterAt text i c t) where
  abbrev letter : SomeLetter text i
  letter = (c, t, l)

  by_range : {P : Type 0} → InRanges c → ((0x621 ≤ c) × (c ≤ 0x63A) → P) → ((0x641 ≤ c) × (c ≤ 0x64A) → P) → P
  by_range r f g = ⊎_elim f g r

  -- a letter of either range has two bytes
  in_two : InRanges c → Two text i c
  in_two r = by_range r (λ h. two text i letter (omega arith) (omega arith)) (λ h. two text i letter (omega arith) (omega arith))

  -- the test r of a second byte is that of the ranges
  by_second : (lo hi b : ℕ) (r : Bool) → IsTrue r ↔ ((lo ≤ b) × (b ≤ hi)) → ((lo ≤ b) × (b ≤ hi) → InRanges c) → (InRanges c → (lo ≤ b) × (b ≤ hi))
      → r ≡ plain_letter c
  by_second lo hi b r e f g = same_truth r (plain_letter c) (λ q. plain_of c (f (e.0 q))) (λ q. e.1 (g (ranges_of c q)))

  pub first_D8 : get_or text i 0 ≡ 0xD8 → (r : Bool) → IsTrue r ↔ ((0xA1 ≤ get_or text (i + 1) 0) × (get_or text (i + 1) 0 ≤ 0xBA)) → r ≡ plain_letter c
  first_D8 e r h =
      let x = bytes_2 text i letter (omega arith) (omega arith) in
      by_second 0xA1 0xBA (get_or text (i + 1) 0) r h (λ q. inl (omega arith, omega arith)) (λ q. by_range q (λ s. (omega arith, omega arith)) (λ s. absurd (omega arith)))

  pub first_D9 : get_or text i 0 ≡ 0xD9 → (r : Bool) → IsTrue r ↔ ((0x81 ≤ get_or text (i + 1) 0) × (get_or text (i + 1) 0 ≤ 0x8A)) → r ≡ plain_letter c
  first_D9 e r h =
      let x = bytes_2 text i letter (omega arith) (omega arith) in
      by_second 0x81 0x8A (get_or text (i + 1) 0) r h (λ q. inr (omega arith, omega arith)) (λ q. by_range q (λ s. absurd (omega arith)) (λ s. (omega arith, omega arith)))

  pub first-other : (get_or text i 0 ≡ 0xD8 → ⊥) → (get_or text i 0 ≡ 0xD9 → ⊥) → false ≡ plain_letter c
  first-other n m = not_plain c (λ r. let x = in_two r in by_range r (λ h. n (omega arith)) (λ h. m (omega arith)))

  -- a plain letter has two bytes
  plain-two : plain_letter c ≡ true → Two text i c
  plain-two p = in_two (ranges_of c p)

  pub width : plain_letter c ≡ true → length (encode1 c) ≡ 2
  width p = (plain-two p).width

-- ---- the letter at the byte i of text is plain
module _ (text : List ℕ) (i : ℕ) (s : SomeLetter text i) (p : Tells text i true) where
  two_of : (c : ℕ) (t : List ℕ) → LetterAt text i c t → Two text i c
  two_of c t l = plain-two text i c t l (sym (p c t l))

  pub inside : i + 2 ≤ length text
  inside = let x = two_of s.0 s.1 s.2 in room_2 text i s (omega arith)

  -- so that its bytes are the next two
  pub copied : {old new : List ℕ} {at r : ℕ} (c : ℕ) (t : List ℕ) → LetterAt text i c t → (n : ℕ) → n ≡ 2 → Wrote old at (take n (drop i text)) new r
      → Wrote old at (encode1 c) new r
  copied {old} {new} {at} {r} c t l n e =
      subst (λ (bs : List ℕ). Wrote old at bs new r) (ap (λ (k : ℕ). take k (drop i text)) e ∙ ap (take 2) l.1 ∙ take_at (encode1 c) t 2 (two_of c t l).width)
