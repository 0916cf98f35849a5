-- Item 2 keeps a letter that is no key of A_0, and a word of such letters. The plain letters, those of the two ranges, are such letters. Assumes nothing.
use mathlib.Core.Path.{◌≡◌, refl, sym, ap, ◌∙◌}
use mathlib.Core.Bool.{true, not}
use mathlib.Core.Logic.{◌⊎◌, inl, inr}
use mathlib.Core.List.{[], ◌∷◌, ◌++◌}
use Prim.Native.Nat.{ℕ, ◌≤◌}
use native.Mathlib.Omega.{arith}
use lib.Dec.{leb}
use lib.ListN.{length}
use borrow.Author.Tests.{leb-true, le-leb, not-true}
use Rattle.definition.specs.Words.{Word, both, every, begins_with}
use Rattle.definition.specs.Tables.{A_0}
use Rattle.definition.specs.Search.{row_at, longest}
use Rattle.definition.specs.Normal.{given, normal, normalise}
use Rattle.definition.specs.Demand3.{NoKey, AllOf}
use Rattle.definition.specs.Facts.{distinct, in_range, plain_letter, no_plain_key}
use Rattle.definition.proofs.Match.{both_0, both_1, either_right, by, clash, begins_split}
use Rattle.definition.proofs.Found.{all_at, row-behind}
use Rattle.definition.proofs.Unique.{some_letter, longest_none, distinct-all}

-- ---- the two ranges, by order

abbrev pub InRanges : ℕ → Type 0
InRanges c = ((0x621 ≤ c) × (c ≤ 0x63A)) ⊎ ((0x641 ≤ c) × (c ≤ 0x64A))

pub in_range_lem : (lo hi c : ℕ) → in_range lo hi c ≡ true → (lo ≤ c) × (c ≤ hi)
in_range_lem lo hi c e = (leb-true lo c (both_0 (leb lo c) (leb c hi) e), leb-true c hi (both_1 (leb lo c) (leb c hi) e))

pub range_in : (lo hi c : ℕ) → (lo ≤ c) × (c ≤ hi) → in_range lo hi c ≡ true
range_in lo hi c h = rw (le-leb lo c h.0, le-leb c hi h.1) refl

pub ranges_of : (c : ℕ) → plain_letter c ≡ true → InRanges c
unfolding plain_letter
ranges_of c e = by (in_range 0x621 0x63A c) (λ h. inl (in_range_lem 0x621 0x63A c h)) (λ h. inr (in_range_lem 0x641 0x64A c (rw h at e)))

pub plain_of : (c : ℕ) → InRanges c → plain_letter c ≡ true
unfolding plain_letter
plain_of c (inl h) = rw (range_in 0x621 0x63A c h) refl
plain_of c (inr h) = either_right (in_range 0x621 0x63A c) (in_range 0x641 0x64A c) (range_in 0x641 0x64A c h)

-- ---- a letter that is no key

-- a key in front of the word c is c
only_letter : (c : ℕ) (key : Word) → 1 ≤ length key → begins_with (c ∷ []) key ≡ true → key ≡ c ∷ []
only_letter c [] l m = absurd (omega arith)
only_letter c (d ∷ []) l m = sym (begins_split (c ∷ []) (d ∷ []) m)
only_letter c (d ∷ e ∷ key) l m = absurd (omega (arith, ap length (begins_split (c ∷ []) (d ∷ e ∷ key) m)))

no_row : (c : ℕ) → NoKey c → longest (begins_with (c ∷ [])) A_0 ≡ length A_0
no_row c n =
    longest_none (begins_with (c ∷ [])) A_0 (λ r h m. n r h (only_letter c (row_at A_0 r).letters (some_letter A_0 (both_0 (distinct A_0) _ distinct-all) r h) m))

pub key_free : (c : ℕ) → NoKey c → normal c ≡ c ∷ []
unfolding normal given
key_free c n = ap (λ (r : ℕ). given c (row_at A_0 r).class) (no_row c n) ∙ ap (given c) (row-behind A_0)

pub key_free_word : (w : Word) → AllOf NoKey w → normalise w ≡ w
unfolding normalise
key_free_word [] h = refl
key_free_word (c ∷ w) h = λ i. key_free c h.0 i ++ key_free_word w h.1 i

-- ---- plain letters, by the one test of the keys

pub no_plain_keys : every no_plain_key A_0 ≡ true
unfolding A_0 plain_letter
no_plain_keys = refl

plain_no_key : (c : ℕ) → plain_letter c ≡ true → NoKey c
plain_no_key c p r h e =
    let t : both (not (plain_letter c)) true ≡ true = ap (every (λ (d : ℕ). not (plain_letter d))) (sym e) ∙ all_at no_plain_key A_0 no_plain_keys r h in
    clash p (not-true (plain_letter c) (both_0 (not (plain_letter c)) true t))

plain_no_keys : (w : Word) → every plain_letter w ≡ true → AllOf NoKey w
plain_no_keys [] e = tt
plain_no_keys (c ∷ w) e = (plain_no_key c (both_0 (plain_letter c) (every plain_letter w) e), plain_no_keys w (both_1 (plain_letter c) (every plain_letter w) e))

pub plain-normal : (c : ℕ) → plain_letter c ≡ true → normal c ≡ c ∷ []
plain-normal c p = key_free c (plain_no_key c p)

pub plain_word : (w : Word) → every plain_letter w ≡ true → normalise w ≡ w
plain_word w e = key_free_word w (plain_no_keys w e)
