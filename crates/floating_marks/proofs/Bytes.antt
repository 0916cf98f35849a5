-- The floating marks as ranges of letters, the two bytes with which each begins, and letters that begin with EF. Assumes nothing.
use mathlib.Core.Path.{◌≡◌, sym, ap, ◌∙◌}
use mathlib.Core.Bool.{true, false}
use mathlib.Core.List.{List, [], ◌∷◌, ◌++◌}
use Prim.Native.Nat.{ℕ, ◌+◌, ◌/◌, ◌%◌, ◌≤◌, ◌<◌}
use native.Mathlib.Omega.{arith}
use lib.ListN.{length, get_or}
use lib.Seq.{get_or-drop}
use Rattle.definition.specs.Floating.{floating, FloatingRanges}
use Rattle.definition.proofs.Match.{by}
use Rattle.definition.proofs.Main.{main_floating}
use Rattle.utf8.specs.Utf8.{encode1}
use Rattle.utf8.specs.Letters.{LetterAt}
use Rattle.utf8.proofs.Encoding.{encode1_3}
use Rattle.utf8.proofs.ReadLetter.{Three, bytes_3}

pub marked : (c : ℕ) → FloatingRanges c → true ≡ floating c
marked c r = sym ((main_floating c).1 r)

pub not_marked : (c : ℕ) → (FloatingRanges c → ⊥) → false ≡ floating c
not_marked c n = by (floating c) (λ f. absurd (n ((main_floating c).0 f))) sym

-- with b at its place i every mark is encoded
abbrev pub InMarks : ℕ → ℕ → Type 0
InMarks b i = (c : ℕ) (bs : List ℕ) → floating c ≡ true → (i < length (encode1 c ++ bs)) × (get_or (encode1 c ++ bs) i 0 ≡ b)

module _ (c : ℕ) (f : floating c ≡ true) where
  within : (0xFE70 ≤ c) × (c ≤ 0xFE7F)
  within = let r = (main_floating c).0 f in (omega arith, omega arith)

  three : encode1 c ≡ (0xE0 + c / 4096) ∷ (0x80 + c / 64 % 64) ∷ (0x80 + c % 64) ∷ []
  three = encode1_3 c (omega (arith, within)) (omega (arith, within))

pub first_in_marks : InMarks 0xEF 0
first_in_marks c bs f = rw (three c f) (omega arith, omega (arith, within c f))

pub second_in_marks : InMarks 0xB9 1
second_in_marks c bs f = let q : c / 64 ≡ 0x3F9 = omega (arith, within c f) in rw (three c f) (omega arith, omega (arith, q))

-- ---- the letter c at the byte i of text begins with EF
module _ (text : List ℕ) (i c : ℕ) (t : List ℕ) (l : LetterAt text i c t) (e : get_or text i 0 ≡ 0xEF) where
  bytes : Three text i c
  bytes = bytes_3 text i (c, t, l) (omega arith) (omega arith)

  pub three-bytes : length (encode1 c) ≡ 3
  three-bytes = bytes.width

  -- behind EF B9 the last byte tells which letter it is
  pub by_last : get_or text (i + 1) 0 ≡ 0xB9 → 0xFDC0 + get_or text (i + 2) 0 ≡ c
  by_last s = let x = bytes in let q : c / 64 ≡ 0x3F9 = omega arith in omega arith

  -- and with another second byte it is no mark
  pub second-other : (get_or text (i + 1) 0 ≡ 0xB9 → ⊥) → false ≡ floating c
  second-other n =
      by (floating c)
      (λ f. absurd (n (sym (get_or-drop i text 1 0) ∙ ap (λ (x : List ℕ). get_or x 1 0) l.1 ∙ (second_in_marks c t f).1)))
      sym
