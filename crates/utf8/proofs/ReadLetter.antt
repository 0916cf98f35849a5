-- The letter at a place of a text, read off its bytes. Assumes nothing.
use mathlib.Core.Path.{◌≡◌, refl, sym, ap, ◌∙◌}
use mathlib.Core.Logic.{⊎_elim}
use mathlib.Core.List.{List, ◌++◌}
use Prim.Native.Nat.{ℕ, ◌+◌, ◌*◌, ◌/◌, ◌%◌, ◌≤◌, ◌<◌}
use native.Mathlib.Omega.{arith}
use lib.ListN.{length, get_or, length-append, length-drop}
use lib.Seq.{get_or-drop}
use Rattle.definition.proofs.Match.{by_le}
use Rattle.utf8.specs.Utf8.{Scalar, encode1}
use Rattle.utf8.proofs.Encoding.{encode1_1, encode1_2, encode1_3, encode1_4}
use Rattle.utf8.proofs.Text.{encode1_pos}
use Rattle.utf8.specs.Letters.{SomeLetter}

pub scalar_top : (c : ℕ) → Scalar c → c < 0x110000
scalar_top c s = ⊎_elim (λ (w : c < 0xD800). omega arith) (λ (w : (0xE000 ≤ c) × (c < 0x110000)). w.1) s

-- ---- the bytes of the letter c, by their number

record One (text : List ℕ) (i c : ℕ) : Type 0 where
  first : get_or text i 0 ≡ c
  low : c < 0x80
  width : length (encode1 c) ≡ 1

pub record Two (text : List ℕ) (i c : ℕ) : Type 0 where
  pub first : get_or text i 0 ≡ 0xC0 + c / 64
  pub second : get_or text (i + 1) 0 ≡ 0x80 + c % 64
  pub low : 0x80 ≤ c
  pub high : c < 0x800
  pub width : length (encode1 c) ≡ 2

pub record Three (text : List ℕ) (i c : ℕ) : Type 0 where
  pub first : get_or text i 0 ≡ 0xE0 + c / 4096
  pub second : get_or text (i + 1) 0 ≡ 0x80 + c / 64 % 64
  pub third : get_or text (i + 2) 0 ≡ 0x80 + c % 64
  pub low : 0x800 ≤ c
  pub high : c < 0x10000
  pub width : length (encode1 c) ≡ 3

record Four (text : List ℕ) (i c : ℕ) : Type 0 where
  first : get_or text i 0 ≡ 0xF0 + c / 262144
  second : get_or text (i + 1) 0 ≡ 0x80 + c / 4096 % 64
  third : get_or text (i + 2) 0 ≡ 0x80 + c / 64 % 64
  fourth : get_or text (i + 3) 0 ≡ 0x80 + c % 64
  low : 0x10000 ≤ c
  width : length (encode1 c) ≡ 4

module _ (text : List ℕ) (i : ℕ) (p : SomeLetter text i) where
  abbrev c : ℕ
  c = p.0

  nth : (k : ℕ) → get_or text (i + k) 0 ≡ get_or (encode1 p.0 ++ p.1) k 0
  nth k = sym (get_or-drop i text k 0) ∙ ap (λ (l : List ℕ). get_or l k 0) p.2.1

  front : get_or text i 0 ≡ get_or (encode1 p.0 ++ p.1) 0 0
  front = let e : i ≡ i + 0 = omega arith in ap (λ (n : ℕ). get_or text n 0) e ∙ nth 0

  room : i + length (encode1 p.0) ≤ length text
  room = omega (arith, ap length p.2.1, length-drop i text, length-append (encode1 c) p.1, encode1_pos c)

  one : c < 0x80 → One text i c
  one h = record { first = front ∙ rw (encode1_1 c h) refl; low = h; width = rw (encode1_1 c h) refl }

  pub two : 0x80 ≤ c → c < 0x800 → Two text i c
  two h k =
      record {
        first = front ∙ rw (encode1_2 c h k) refl;
        second = nth 1 ∙ rw (encode1_2 c h k) refl;
        low = h;
        high = k;
        width = rw (encode1_2 c h k) refl;
      }

  pub three : 0x800 ≤ c → c < 0x10000 → Three text i c
  three h k =
      record {
        first = front ∙ rw (encode1_3 c h k) refl;
        second = nth 1 ∙ rw (encode1_3 c h k) refl;
        third = nth 2 ∙ rw (encode1_3 c h k) refl;
        low = h;
        high = k;
        width = rw (encode1_3 c h k) refl;
      }

  four : 0x10000 ≤ c → Four text i c
  four h =
      record {
        first = front ∙ rw (encode1_4 c h) refl;
        second = nth 1 ∙ rw (encode1_4 c h) refl;
        third = nth 2 ∙ rw (encode1_4 c h) refl;
        fourth = nth 3 ∙ rw (encode1_4 c h) refl;
        low = h;
        width = rw (encode1_4 c h) refl;
      }

  by_width : {P : Type 0} → (One text i c → P) → (Two text i c → P) → (Three text i c → P) → (Four text i c → P) → P
  by_width f g h k =
      by_le c 0x7F (λ a. f (one (omega arith)))
      (λ a. by_le c 0x7FF (λ b. g (two a (omega arith)))
      (λ b. by_le c 0xFFFF (λ d. h (three b (omega arith))) (λ d. k (four d))))

  -- ---- how many bytes there are, by the first

  pub room_1 : i + 1 ≤ length text
  room_1 = omega (arith, room, encode1_pos c)

  pub room_2 : 0x80 ≤ get_or text i 0 → i + 2 ≤ length text
  room_2 h = by_width (λ x. absurd (omega arith)) (λ x. omega (arith, room)) (λ x. omega (arith, room)) (λ x. omega (arith, room))

  pub room_3 : 0xE0 ≤ get_or text i 0 → i + 3 ≤ length text
  room_3 h = by_width (λ x. absurd (omega arith)) (λ x. absurd (omega arith)) (λ x. omega (arith, room)) (λ x. omega (arith, room))

  pub room_4 : 0xF0 ≤ get_or text i 0 → i + 4 ≤ length text
  room_4 h = by_width (λ x. absurd (omega arith)) (λ x. absurd (omega arith)) (λ x. absurd (omega arith)) (λ x. omega (arith, room))

  -- ---- which bytes they are, and their letter

  bytes_1 : get_or text i 0 < 0x80 → One text i c
  bytes_1 h = by_width (λ x. x) (λ x. absurd (omega arith)) (λ x. absurd (omega arith)) (λ x. absurd (omega arith))

  pub bytes_2 : 0x80 ≤ get_or text i 0 → get_or text i 0 < 0xE0 → Two text i c
  bytes_2 h k = by_width (λ x. absurd (omega arith)) (λ x. x) (λ x. absurd (omega arith)) (λ x. absurd (omega arith))

  pub bytes_3 : 0xE0 ≤ get_or text i 0 → get_or text i 0 < 0xF0 → Three text i c
  bytes_3 h k = by_width (λ x. absurd (omega arith)) (λ x. absurd (omega arith)) (λ x. x) (λ x. absurd (omega arith))

  bytes_4 : 0xF0 ≤ get_or text i 0 → Four text i c
  bytes_4 h = by_width (λ x. absurd (omega arith)) (λ x. absurd (omega arith)) (λ x. absurd (omega arith)) (λ x. x)

  abbrev Is : ℕ → ℕ → Type 0
  Is r n = (r ≡ p.0) × (n ≡ length (encode1 p.0))

  pub reads_1 : (r : ℕ) → get_or text i 0 < 0x80 → r ≡ get_or text i 0 → Is r 1
  reads_1 r h e = let x = bytes_1 h in (omega arith, sym x.width)

  pub reads_2 : (r : ℕ) → 0x80 ≤ get_or text i 0 → get_or text i 0 < 0xE0 → r ≡ get_or text i 0 % 32 * 64 + get_or text (i + 1) 0 % 64 → Is r 2
  reads_2 r h k e = let x = bytes_2 h k in (omega arith, sym x.width)

  pub reads_3 : (r : ℕ) → 0xE0 ≤ get_or text i 0 → get_or text i 0 < 0xF0
      → r ≡ (get_or text i 0 % 16 * 64 + get_or text (i + 1) 0 % 64) * 64 + get_or text (i + 2) 0 % 64 → Is r 3
  reads_3 r h k e =
      let x = bytes_3 h k in
      let y : get_or text i 0 % 16 * 64 + get_or text (i + 1) 0 % 64 ≡ c / 64 = omega arith in
      (omega arith, sym x.width)

  pub reads_4 : (r : ℕ) → 0xF0 ≤ get_or text i 0
      → r ≡ ((get_or text i 0 % 8 * 64 + get_or text (i + 1) 0 % 64) * 64 + get_or text (i + 2) 0 % 64) * 64 + get_or text (i + 3) 0 % 64 → Is r 4
  reads_4 r h e =
      let x = bytes_4 h in
      let top = scalar_top c p.2.0 in
      let j : c / 262144 * 64 + c / 4096 % 64 ≡ c / 4096 = omega arith in
      let k : c / 4096 * 64 + c / 64 % 64 ≡ c / 64 = omega arith in
      let y : get_or text i 0 % 8 * 64 + get_or text (i + 1) 0 % 64 ≡ c / 4096 = omega arith in
      let z : (get_or text i 0 % 8 * 64 + get_or text (i + 1) 0 % 64) * 64 + get_or text (i + 2) 0 % 64 ≡ c / 64 = omega arith in
      (omega arith, sym x.width)
