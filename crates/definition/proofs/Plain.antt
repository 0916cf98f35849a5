-- No letter of a normalised word is a key of A_0, and no letter of a stem is one or one of 0622 to 0626. Assumes nothing.
use mathlib.Core.Path.{◌≡◌, refl, sym, ap, ◌∙◌, subst}
use mathlib.Core.Bool.{Bool, true, false≢true, not}
use mathlib.Core.Logic.{inl, inr}
use mathlib.Core.List.{List, [], ◌∷◌, ◌++◌}
use Prim.Native.Nat.{ℕ, zero, suc, ◌+◌, ◌≤◌, ◌<◌}
use native.Mathlib.Omega.{arith}
use lib.Dec.{leb}
use lib.ListN.{length, take, get_or, length-append}
use borrow.Author.Tests.{leb-true, not-true}
use Rattle.definition.specs.Letters.{hamza, alef, waw, yeh}
use Rattle.definition.specs.Words.{Word, both, every, same, begins_with}
use Rattle.definition.specs.Tables.{Row, A_0, A_4}
use Rattle.definition.specs.Search.{row_at, longest}
use Rattle.definition.specs.Normal.{gives, listed_for, given, normal, normalise}
use Rattle.definition.specs.Fronts.{Applied}
use Rattle.definition.specs.Demand3.{HeadOf, no_head, one_head, Change, last_hamza, other_alef, other_waw, other_yeh, last_yeh, fourth_alef, stays, NoKey, NoHamza, Plain, AllOf}
use Rattle.definition.proofs.Match.{both_0, both_1, same_refl}
use Rattle.definition.proofs.Found.{Found, all_at, longest-found, longest-longest, row-behind, no_letters}

-- ---- all letters of a word
module _ (P : ℕ → Type 0) where
  pub all_append : (a b : Word) → AllOf P a → AllOf P b → AllOf P (a ++ b)
  all_append [] b h g = g
  all_append (c ∷ a) b h g = (h.0, all_append a b h.1 g)

  pub all_left : (a b : Word) → AllOf P (a ++ b) → AllOf P a
  all_left [] b h = tt
  all_left (c ∷ a) b h = (h.0, all_left a b h.1)

  pub all_right : (a b : Word) → AllOf P (a ++ b) → AllOf P b
  all_right [] b h = h
  all_right (c ∷ a) b h = all_right a b h.1

  pub all_get_d : (w : Word) (i : ℕ) → i < length w → AllOf P w → P (get_or w i 0)
  all_get_d [] i l h = absurd (omega arith)
  all_get_d (c ∷ w) zero l h = h.0
  all_get_d (c ∷ w) (suc i) l h = all_get_d w i (omega arith) h.1

  pub all_from : (w : Word) → ((i : ℕ) → i < length w → P (get_or w i 0)) → AllOf P w
  all_from [] h = tt
  all_from (c ∷ w) h = (h 0 (omega arith), all_from w (λ i l. h (suc i) (omega arith)))

  pub all_head : (n front x head_letter : Word) {ms : List Applied} → n ≡ front ++ x → HeadOf n front head_letter ms → AllOf P n → AllOf P head_letter
  all_head n front x head_letter e (no_head q) a = subst (AllOf P) (sym q) tt
  all_head n front x head_letter e (one_head r i rest h l two f q) a =
      let ln : length n ≡ length front + length x = ap length e ∙ length-append front x in
      let lf : length front ≡ length (row_at A_4 r).letters + length rest = ap length f ∙ length-append (row_at A_4 r).letters rest in
      subst (AllOf P) (sym q) (all_get_d n i (omega arith) a, tt)

-- ---- keys
abbrev other_row : ℕ → Row → Bool
other_row c k = not (same k.letters (c ∷ []))

abbrev is_no_key : ℕ → Bool
is_no_key c = every (other_row c) A_0

no_key : (c : ℕ) → is_no_key c ≡ true → NoKey c
no_key c e r h q =
    let a = not-true (same (row_at A_0 r).letters (c ∷ [])) (all_at (other_row c) A_0 e r h) in
    false≢true (sym a ∙ ap (λ (x : Word). same x (c ∷ [])) q ∙ same_refl (c ∷ []))

abbrev are_no_keys : Word → Bool
are_no_keys [] = true
are_no_keys (c ∷ w) = both (is_no_key c) (are_no_keys w)

no_keys : (w : Word) → are_no_keys w ≡ true → AllOf NoKey w
no_keys [] e = tt
no_keys (c ∷ w) e = (no_key c (both_0 (is_no_key c) (are_no_keys w) e), no_keys w (both_1 (is_no_key c) (are_no_keys w) e))

-- the letters that later steps put in
put_in : AllOf NoKey (hamza ∷ alef ∷ waw ∷ yeh ∷ [])
unfolding A_0 same
put_in = no_keys (hamza ∷ alef ∷ waw ∷ yeh ∷ []) refl

-- ---- normalising: every row of A_0 has a class, and what the class gives holds no key
abbrev gives_no_key : Row → Bool
gives_no_key k = both (leb 1 k.class) (are_no_keys (given 0 k.class))

gives_no_key_lem : every gives_no_key A_0 ≡ true
unfolding A_0 gives listed_for given same
gives_no_key_lem = refl

given_any : (c k : ℕ) → 1 ≤ k → given c k ≡ given 0 k
unfolding given
given_any c zero h = absurd (omega arith)
given_any c (suc k) h = refl

begins_self : (c : ℕ) (w : Word) → w ≡ c ∷ [] → begins_with (c ∷ []) w ≡ true
unfolding begins_with
begins_self c w e = subst (λ (x : Word). same (take (length x) (c ∷ [])) x ≡ true) (sym e) (same_refl (c ∷ []))

normal-plain : (c : ℕ) → AllOf NoKey (normal c)
unfolding normal given
normal-plain c = go (longest-found (begins_with (c ∷ [])) A_0)
  where
    r : ℕ
    r = longest (begins_with (c ∷ [])) A_0

    kept : r ≡ length A_0 → NoKey c
    kept h i l q =
        let a = longest-longest (begins_with (c ∷ [])) A_0 i l (begins_self c (row_at A_0 i).letters q) in
        let b : length (row_at A_0 i).letters ≡ 1 = ap length q in
        let z : length (row_at A_0 r).letters ≡ 0 = ap (λ (i : ℕ). length (row_at A_0 i).letters) h ∙ no_letters A_0 in
        omega arith

    go : Found (begins_with (c ∷ [])) A_0 r → AllOf NoKey (given c (row_at A_0 r).class)
    go (inl h) =
        let k : ℕ = (row_at A_0 r).class in
        let e : gives_no_key (row_at A_0 r) ≡ true = all_at gives_no_key A_0 gives_no_key_lem r h.0 in
        subst (AllOf NoKey) (sym (given_any c k (leb-true 1 k (both_0 _ _ e)))) (no_keys (given 0 k) (both_1 (leb 1 k) _ e))
    go (inr h) = subst (λ (k : ℕ). AllOf NoKey (given c k)) (sym (ap (λ (i : ℕ). (row_at A_0 i).class) h ∙ row-behind A_0)) (kept h, tt)

pub normalise-plain : (w : Word) → AllOf NoKey (normalise w)
unfolding normalise
normalise-plain [] = tt
normalise-plain (c ∷ w) = all_append NoKey (normal c) (normalise w) (normal-plain c) (normalise-plain w)

-- ---- what becomes of a kept letter
plain : (d e : ℕ) → d ≡ e → NoKey e → NoHamza e → Plain d
plain d e q n o = subst Plain (sym q) (record { no_key = n; no_hamza = o })

pub changed-plain : (L T F : Type 0) (c d : ℕ) → Change L T F c d → NoKey c → Plain d
changed-plain L T F c d (last_hamza l a b e) n = plain d hamza e put_in.0 (inl (omega arith))
changed-plain L T F c d (other_alef l a e) n = plain d alef e put_in.1.0 (inr (omega arith))
changed-plain L T F c d (other_waw l a e) n = plain d waw e put_in.1.1.0 (inr (omega arith))
changed-plain L T F c d (other_yeh l a e) n = plain d yeh e put_in.1.1.1.0 (inr (omega arith))
changed-plain L T F c d (last_yeh l z a e) n = plain d yeh e put_in.1.1.1.0 (inr (omega arith))
changed-plain L T F c d (fourth_alef f a e) n = plain d alef e put_in.1.0 (inr (omega arith))
changed-plain L T F c d (stays m f o e) n = plain d c e n o
