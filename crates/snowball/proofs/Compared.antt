-- One turn of a comparison of a row with the text, of which the first q bytes that are read are the same. Assumes nothing.
use mathlib.Core.Path.{◌≡◌, sym}
use mathlib.Core.Bool.{Bool, true, false}
use mathlib.Core.List.{List}
use Prim.Native.Nat.{ℕ, ◌+◌, ◌≤◌, ◌<◌}
use native.Mathlib.Omega.{arith}
use lib.ListN.{length, get_or}
use Rattle.snowball.specs.Rows.{before}
use Rattle.snowball.specs.Search.{lcp}
use Rattle.snowball.proofs.Order.{lcp-left, lcp_right, all_the_row, all_the_text, text_less, text-more, one_more}

-- what a comparison answers
pub record Answer (u s : List ℕ) (q : ℕ) (less : Bool) : Type 0 where
  pub common_value : q ≡ lcp u s
  pub less_value : less ≡ before s u

turned : (u s : List ℕ) (q : ℕ) (less : Bool) → (lcp u s ≡ q) × (before s u ≡ less) → Answer u s q less
turned u s q less r = record { common_value = sym r.0; less_value = sym r.1 }

module _ (read : List ℕ → List ℕ) (all : (s : List ℕ) → length (read s) ≡ length s) (row text : List ℕ) (q : ℕ) (i : q ≤ lcp (read row) (read text)) where
  in_text : q ≤ length text
  in_text = omega (arith, lcp_right (read row) (read text), all text)

  pub row_done : q ≡ length row → Answer (read row) (read text) q false
  row_done d = turned (read row) (read text) q false (all_the_row q (read row) (read text) i (omega (arith, all row, lcp-left (read row) (read text))))

  module _ (m : q < length row) where
    in_row : q < length (read row)
    in_row = omega (arith, all row)

    pub text_done : q ≡ length text → Answer (read row) (read text) q true
    text_done d = turned (read row) (read text) q true (all_the_text q (read row) (read text) i (omega (arith, all text)) in_row)

    module _ (ne : q ≡ length text → ⊥) where
      pub below : q < length text
      below = omega (arith, in_text)

      left : q < length (read text)
      left = omega (arith, below, all text)

      -- the next byte of the text is a, that of the row is b
      module _ (a b : ℕ) (ea : a ≡ get_or (read text) q 0) (eb : b ≡ get_or (read row) q 0) where
        pub less_here : a < b → Answer (read row) (read text) q true
        less_here h = turned (read row) (read text) q true (text_less q (read row) (read text) i in_row left (omega arith))

        pub more_here : b < a → Answer (read row) (read text) q false
        more_here h = turned (read row) (read text) q false (text-more q (read row) (read text) i in_row left (omega arith))

        pub same : b ≤ a → a ≤ b → q + 1 ≤ lcp (read row) (read text)
        same h k = one_more q (read row) (read text) i in_row left (omega arith)
