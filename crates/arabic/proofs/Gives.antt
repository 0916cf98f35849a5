-- What a class of A_0 gives, read off the bytes of the code, and that it is scalar values. Assumes nothing.
use mathlib.Core.Path.{◌≡◌, refl, sym, ap, ◌∙◌}
use mathlib.Core.Bool.{true}
use mathlib.Core.List.{List, [], ◌∷◌, map}
use Prim.Native.Nat.{ℕ, zero, suc, ◌+◌, ◌<◌}
use native.Mathlib.Omega.{arith}
use lib.Dec.{eqb, leb, ltb}
use lib.ListN.{length, get_or, get_or-map}
use borrow.Author.Tests.{ltb-true, le-leb}
use Rattle.std.specs.Borrow.{Bor}
use Rattle.utf8.specs.Utf8.{Scalar, Scalars, encode1, encode}
use Rattle.utf8.proofs.Text.{encode_one, scalars-append}
use Rattle.definition.specs.Words.{Word, both, every}
use Rattle.definition.specs.Tables.{Table}
use Rattle.definition.specs.Normal.{gives, listed_for, given, normal, normalise}
use Rattle.definition.proofs.Match.{both_0, both_1, by}
use Rattle.snowball.specs.Rows.{low}
use Rattle.snowball.proofs.Answers.{low-scalars}
use Rattle.arabic.specs.Rows.{class_of, listed, gives_from, all_gives, given_bytes, right_letters, right_for}
use Rattle.arabic.proofs.Table.{right_gives, kept, normal-class}

-- ---- the letters that a class gives

right_listed : (t : Table) → every right_for t ≡ true → (k : ℕ) → right_letters (listed_for t k) ≡ true
unfolding listed_for
right_listed [] e k = refl
right_listed (r ∷ t) e k =
    by (eqb r.class k) (λ b. rw b (both_0 (right_for r) (every right_for t) e)) (λ b. rw b (right_listed t (both_1 (right_for r) (every right_for t) e) k))

low_letters : (w : Word) → every (λ (c : ℕ). both (ltb 0 c) (ltb c 0x1000)) w ≡ true → low w ≡ true
low_letters [] e = refl
low_letters (c ∷ w) e =
    let h : both (ltb 0 c) (ltb c 0x1000) ≡ true = both_0 _ _ e in
    rw (le-leb c 0xD7FF (let l : c < 0x1000 = ltb-true c 0x1000 (both_1 (ltb 0 c) (ltb c 0x1000) h) in omega arith)) (low_letters w (both_1 (both (ltb 0 c) (ltb c 0x1000)) _ e))

scalars-listed : (k : ℕ) → Scalars (listed_for gives k)
scalars-listed k =
    let w = listed_for gives k in
    low-scalars w (low_letters w (both_1 (leb (length w) 2) _ (right_listed gives right_gives k)))

-- ---- their bytes

given_at : (n k j : ℕ) → j < n → get_or (gives_from n k) j [] ≡ encode (listed_for gives (k + j))
given_at zero k j h = absurd (omega arith)
given_at (suc n) k zero h = let e : k ≡ k + 0 = omega arith in ap (λ (i : ℕ). encode (listed_for gives i)) e
given_at (suc n) k (suc j) h =
    let e : suc k + j ≡ k + suc j = omega arith in
    given_at n (suc k) j (omega arith) ∙ ap (λ (i : ℕ). encode (listed_for gives i)) e

pub class_given : (k : ℕ) → k < 56 → get_or all_gives k [] ≡ encode (listed_for gives k)
unfolding all_gives
class_given k h = let e : 0 + k ≡ k = omega arith in given_at 56 0 k h ∙ ap (λ (i : ℕ). encode (listed_for gives i)) e

-- what the class k gives, where the references xs are to what the classes give
pub gives_at : (xs : List (Bor (List ℕ))) (i k : ℕ) (d : Bor (List ℕ)) → d.now ≡ [] → map (λ (b : Bor (List ℕ)). b.now) xs ≡ all_gives → i ≡ k → k < 56 → (get_or xs i d).now ≡ encode (listed_for gives k)
gives_at xs i k d e f q h = sym (get_or-map (λ (b : Bor (List ℕ)). b.now) xs i d) ∙ (λ j. get_or (f j) (q j) (e j)) ∙ class_given k h

-- the bytes of what stands for the letter c
pub given_is : (c k : ℕ) → k < 56 → given_bytes (listed k) (encode1 c) ≡ encode (given c k)
unfolding given all_gives
given_is c zero h = sym (ap encode (kept c) ∙ encode_one c)
given_is c (suc k) h = class_given (suc k) h

-- ---- what is given are scalar values

given-scalars : (c k : ℕ) → Scalar c → Scalars (given c k)
unfolding given
given-scalars c zero s = (s, tt)
given-scalars c (suc k) s = scalars-listed (suc k)

pub normalise-scalars : (w : Word) → Scalars w → Scalars (normalise w)
unfolding normalise
normalise-scalars [] s = tt
normalise-scalars (c ∷ w) s = scalars-append (normal c) (normalise w) (rw (normal-class c) (given-scalars c (class_of c) s.0)) (normalise-scalars w s.1)
