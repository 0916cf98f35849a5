-- A search over the bytes of a text, among the rows' bytes, answers the row that the definition answers. Assumes nothing.
use mathlib.Core.Path.{◌≡◌, refl, sym, ap, ◌∙◌}
use mathlib.Core.Bool.{Bool, true, false}
use mathlib.Core.Logic.{inl, inr}
use mathlib.Core.List.{[], ◌∷◌, ◌++◌, reverse, reverse-append, reverse-reverse}
use Prim.Native.Nat.{ℕ, zero, suc, ◌+◌, ◌-◌, ◌≤◌, ◌<◌}
use native.Mathlib.Omega.{arith}
use lib.Dec.{leb}
use lib.ListN.{length, take, drop, length-append, take-append-drop}
use borrow.Author.Tests.{leb-true, leb-false, le-leb, lt-leb}
use Rattle.definition.specs.Words.{Word, pick, begins_with, ends_with}
use Rattle.definition.specs.Tables.{Row, Table}
use Rattle.definition.specs.Search.{row_at, longer, longest}
use Rattle.definition.proofs.Match.{by, same_eq, begins_split, begins_of, ends_split, ends_of}
use Rattle.definition.proofs.Found.{Found, longest-found, no_letters}
use Rattle.utf8.specs.Utf8.{Scalars, encode}
use Rattle.utf8.specs.Places.{size}
use Rattle.utf8.proofs.Places.{size-append, size_mono, size_strict}
use Rattle.utf8.proofs.Matches.{iff, front_bytes, end-bytes}
use Rattle.snowball.specs.Rows.{byte_row, byte_table, AllScalars}

-- ---- of two keys at one place the longer in letters is the longer in bytes
same-order : (a b c d : ℕ) → (a ≤ b → c ≤ d) → (b < a → d < c) → leb c d ≡ leb a b
same-order a b c d f g = by (leb a b)
    (λ t. le-leb c d (f (leb-true a b t)) ∙ sym t)
    (λ t. lt-leb c d (g (leb-false a b t)) ∙ sym t)

front-order : (w a b : Word) → begins_with w a ≡ true → begins_with w b ≡ true → leb (size a) (size b) ≡ leb (length a) (length b)
unfolding begins_with
front-order w a b p q =
    let x : take (length a) w ≡ a = same_eq (take (length a) w) a p in
    let y : take (length b) w ≡ b = same_eq (take (length b) w) b q in
    let sx : size (take (length a) w) ≡ size a = ap size x in
    let sy : size (take (length b) w) ≡ size b = ap size y in
    let la : length w ≡ length a + length (drop (length a) w) = ap length (sym (take-append-drop (length a) w) ∙ ap (λ (z : Word). z ++ drop (length a) w) x) ∙ length-append a (drop (length a) w) in
    same-order (length a) (length b) (size a) (size b)
    (λ h. omega (arith, size_mono w (length a) (length b) h))
    (λ h. omega (arith, size_strict w (length b) (length a) h (omega arith)))

end-order : (w a b : Word) → ends_with w a ≡ true → ends_with w b ≡ true → leb (size a) (size b) ≡ leb (length a) (length b)
end-order w a b p q =
    let m : ℕ = length w - length a in
    let n : ℕ = length w - length b in
    let x : w ≡ take m w ++ a = ends_split w a p in
    let y : w ≡ take n w ++ b = ends_split w b q in
    let sx : size w ≡ size (take m w) + size a = ap size x ∙ size-append (take m w) a in
    let sy : size w ≡ size (take n w) + size b = ap size y ∙ size-append (take n w) b in
    let la : length w ≡ length (take m w) + length a = ap length x ∙ length-append (take m w) a in
    let lb : length w ≡ length (take n w) + length b = ap length y ∙ length-append (take n w) b in
    same-order (length a) (length b) (size a) (size b)
    (λ h. omega (arith, size_mono w n m (omega arith)))
    (λ h. omega (arith, size_strict w m n (omega arith) (omega arith)))

-- ---- the table of bytes
pub byte_row_lem : (t : Table) (r : ℕ) → (row_at (byte_table t) r).letters ≡ encode (row_at t r).letters
unfolding encode
byte_row_lem [] zero = refl
byte_row_lem [] (suc r) = refl
byte_row_lem (k ∷ t) zero = refl
byte_row_lem (k ∷ t) (suc r) = byte_row_lem t r

pub byte_class : (t : Table) (r : ℕ) → (row_at (byte_table t) r).class ≡ (row_at t r).class
byte_class [] zero = refl
byte_class [] (suc r) = refl
byte_class (k ∷ t) zero = refl
byte_class (k ∷ t) (suc r) = byte_class t r

-- tests on letters and on bytes that agree at every row, and order the rows that match alike, find the same row
module _ (m n : Word → Bool) (agree : (k : Word) → Scalars k → n (encode k) ≡ m k)
    (order : (a b : Word) → m a ≡ true → m b ≡ true → leb (size a) (size b) ≡ leb (length a) (length b)) where
  longer-bytes : (b : Bool) (k : Row) (t : Table) (r : ℕ) → m k.letters ≡ b → Found m t r → longer b (byte_row k) (byte_table t) r ≡ longer b k t r
  unfolding longer encode
  longer-bytes true k t r e (inl f) = ap (λ (c : Bool). pick c 0 (suc r))
      (ap (λ (x : Word). leb (length x) (length (encode k.letters))) (byte_row_lem t r) ∙ order (row_at t r).letters k.letters f.1 e)
  longer-bytes true k t r e (inr f) = ap (λ (c : Bool). pick c 0 (suc r))
      (le-leb (length (row_at (byte_table t) r).letters) (length (encode k.letters)) (omega (arith, empty_bytes)) ∙ sym (le-leb (length (row_at t r).letters) (length k.letters) (omega (arith, empty_letters))))
    where
      no_bytes : (u : Table) → length (row_at (byte_table u) (length u)).letters ≡ 0
      no_bytes [] = refl
      no_bytes (j ∷ u) = no_bytes u

      empty_letters : length (row_at t r).letters ≡ 0
      empty_letters = ap (λ (i : ℕ). length (row_at t i).letters) f ∙ no_letters t

      empty_bytes : length (row_at (byte_table t) r).letters ≡ 0
      empty_bytes = ap (λ (i : ℕ). length (row_at (byte_table t) i).letters) f ∙ no_bytes t
  longer-bytes false k t r e f = refl

  longest-bytes : (t : Table) → AllScalars t → longest n (byte_table t) ≡ longest m t
  unfolding longest
  longest-bytes [] s = refl
  longest-bytes (k ∷ t) s =
      (λ i. longer (agree k.letters s.0 i) (byte_row k) (byte_table t) (longest-bytes t s.1 i))
      ∙ longer-bytes (m k.letters) k t (longest m t) refl (longest-found m t)

pub ahead_bytes : (w : Word) (t : Table) → Scalars w → AllScalars t → longest (begins_with (encode w)) (byte_table t) ≡ longest (begins_with w) t
ahead_bytes w t s a = longest-bytes (begins_with w) (begins_with (encode w)) (λ k q. front_bytes w k s q) (front-order w) t a

pub behind-bytes : (w : Word) (t : Table) → Scalars w → AllScalars t → longest (ends_with (encode w)) (byte_table t) ≡ longest (ends_with w) t
behind-bytes w t s a = longest-bytes (ends_with w) (ends_with (encode w)) (λ k q. end-bytes w k s q) (end-order w) t a

-- a search that reads both backwards (the backward one of among) tests the same
pub ends-reverse : (w key : Word) → begins_with (reverse w) (reverse key) ≡ ends_with w key
ends-reverse w key = iff (begins_with (reverse w) (reverse key)) (ends_with w key)
    (λ e. let r : Word = drop (length (reverse key)) (reverse w) in
    ends_of w (reverse r) key
    (sym (reverse-reverse w) ∙ ap reverse (begins_split (reverse w) (reverse key) e) ∙ reverse-append (reverse key) r ∙ ap (λ (x : Word). reverse r ++ x) (reverse-reverse key)))
    (λ e. let a : Word = take (length w - length key) w in
    begins_of (reverse w) (reverse key) (reverse a) (ap reverse (ends_split w key e) ∙ reverse-append a key))
