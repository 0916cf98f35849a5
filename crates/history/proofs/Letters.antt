-- What the steps that change single letters make of a letter and of a word is what the definition has for it. Assumes nothing.
use mathlib.Core.Path.{◌≡◌, refl, sym, ap, ◌∙◌}
use mathlib.Core.Bool.{Bool, true, false}
use mathlib.Core.Logic.{inl, inr}
use mathlib.Core.List.{[], ◌∷◌, ◌++◌, map}
use Prim.Native.Nat.{ℕ, zero, suc, ◌-◌, ◌≤◌}
use native.Mathlib.Omega.{arith}
use lib.Dec.{eqb, leb, ltb}
use lib.ListN.{length, get_or}
use borrow.Author.Tests.{eqb-true, ltb-true, ltb-false, lt-ltb, le-ltb, le-leb, leb-true}
use Rattle.std.proofs.lemmas.List.{get_or_default}
use Rattle.definition.specs.Letters.{hamza, alef, waw, yeh}
use Rattle.definition.specs.Words.{Word, both, every, same, begins_with}
use Rattle.definition.specs.Tables.{Row, Table, A_0, A_1, A_2, A_21}
use Rattle.definition.specs.Search.{row_at, longer, longest}
use Rattle.definition.specs.Normal.{gives, listed_for, given, normal, normalise}
use Rattle.definition.specs.Endings.{suffix_all_alef_maqsura}
use Rattle.definition.specs.Finish.{last, other}
use Rattle.definition.specs.Facts.{replaced}
use Rattle.definition.specs.Floating.{floating_marks, one_of, floating, unmarked}
use Rattle.definition.proofs.Match.{both_0, both_1, by, same_eq}
use Rattle.definition.proofs.Found.{Found, all_at, longest-found, row-behind}
use Rattle.definition.proofs.Rows.{last_rows, other_rows, maqsura-row}
use Rattle.history.specs.Steps.{Step, floating_mark, normalize_pre, alef_maqsura, normalize_post_last, normalize_post_other, letter_rows, table_of, put_for, put}
use Rattle.history.specs.History.{row_for, is_key, keys_in}
use Rattle.history.proofs.Keys.{one_letter, key_inside, changed, becomes}

-- ---- floating marks

-- the letter of a row
abbrev pub key_of : Row → ℕ
key_of k = get_or k.letters 0 0

single : (w : Word) → length w ≡ 1 → w ≡ get_or w 0 0 ∷ []
single [] e = absurd (omega (arith, e))
single (c ∷ []) e = refl
single (c ∷ d ∷ w) e = absurd (omega (arith, e))

letters_few : (t : Table) → every one_letter t ≡ true → (r : ℕ) → length (row_at t r).letters ≤ 1
letters_few [] e r = omega arith
letters_few (k ∷ t) e zero = omega (arith, eqb-true (length k.letters) 1 (both_0 (one_letter k) _ e))
letters_few (k ∷ t) e (suc r) = letters_few t (both_1 (one_letter k) _ e) r

-- a letter has a row in a table of single letters if it is one of them
pub letter_listed : (t : Table) → every one_letter t ≡ true → (c : ℕ) → ltb (longest (begins_with (c ∷ [])) t) (length t) ≡ one_of (map key_of t) c
unfolding longest longer begins_with same
letter_listed [] e c = refl
letter_listed (k ∷ t) e c =
    let d : ℕ = key_of k in
    let r : ℕ = longest (begins_with (c ∷ [])) t in
    let u = both_1 (one_letter k) (every one_letter t) e in
    let l = eqb-true (length k.letters) 1 (both_0 (one_letter k) (every one_letter t) e) in
    ap (λ (b : Bool). ltb (longer b k t r) (suc (length t))) (ap (begins_with (c ∷ [])) (single k.letters l))
    ∙ by (eqb c d)
    (λ h. rw (h, le-leb (length (row_at t r).letters) (length k.letters) (omega (arith, letters_few t u r, l))) (lt-ltb 0 (suc (length t)) (omega arith)))
    (λ h. rw h (by (ltb r (length t))
    (λ q. let l = ltb-true r (length t) q in lt-ltb (suc r) (suc (length t)) (omega arith) ∙ sym q)
    (λ q. let l = ltb-false r (length t) q in le-ltb (suc r) (suc (length t)) (omega arith) ∙ sym q)
    ∙ letter_listed t u c))

pub mark_is_key : (c : ℕ) → is_key floating_mark c ≡ floating c
unfolding is_key row_for table_of floating floating_marks
mark_is_key c = letter_listed (letter_rows floating_marks) refl c

pub becomes_unmarked : (w : Word) → becomes floating_mark w ≡ unmarked w
unfolding becomes unmarked put put_for
becomes_unmarked [] = refl
becomes_unmarked (c ∷ w) = rw (mark_is_key c) (by (floating c)
    (λ k. rw k (becomes_unmarked w))
    (λ k. rw k (ap (λ (x : Word). c ∷ x) (becomes_unmarked w))))

-- a word without its floating marks has no key there
pub no_key : (w : Word) → keys_in floating_mark (unmarked w) ≡ []
unfolding unmarked keys_in
no_key [] = refl
no_key (c ∷ w) = by (floating c)
    (λ k. rw k (no_key w))
    (λ k. rw k (rw (mark_is_key c) (rw k (no_key w))))

-- ---- a letter that is no key has no class
pub no_class : (s : Step) (c : ℕ) → is_key s c ≡ false → (row_at (table_of s) (row_for s c)).class ≡ 0
unfolding is_key row_for
no_class s c k = go (longest-found (begins_with (c ∷ [])) (table_of s))
  where
    go : Found (begins_with (c ∷ [])) (table_of s) (longest (begins_with (c ∷ [])) (table_of s)) → (row_at (table_of s) (longest (begins_with (c ∷ [])) (table_of s))).class ≡ 0
    go (inl f) = let l = ltb-false (longest (begins_with (c ∷ [])) (table_of s)) (length (table_of s)) k in let h = f.0 in absurd (omega arith)
    go (inr f) = ap (λ (r : ℕ). (row_at (table_of s) r).class) f ∙ row-behind (table_of s)

-- ---- item 2

abbrev pub classed : Row → Bool
classed k = leb 1 k.class

pub pre_classed : every classed (table_of normalize_pre) ≡ true
unfolding table_of A_0
pre_classed = refl

given_listed : (c k : ℕ) → 1 ≤ k → given c k ≡ listed_for gives k
unfolding given
given_listed c zero h = absurd (omega arith)
given_listed c (suc k) h = refl

pre_changed : (c : ℕ) → changed normalize_pre c ≡ normal c
unfolding put put_for normal row_for table_of given
pre_changed c =
    let r : ℕ = row_for normalize_pre c in
    by (is_key normalize_pre c)
    (λ k.
    let l = leb-true 1 (row_at A_0 r).class (all_at classed A_0 pre_classed r (key_inside normalize_pre c k)) in
    rw k (sym (given_listed c (row_at A_0 r).class l)))
    (λ k. rw k (ap (given c) (sym (no_class normalize_pre c k))))

pub becomes_normal : (w : Word) → becomes normalize_pre w ≡ normalise w
unfolding becomes normalise
becomes_normal [] = refl
becomes_normal (c ∷ w) = λ i. pre_changed c i ++ becomes_normal w i

-- ---- item 5 and the last 0649: a letter for each class

abbrev puts_one_of : Step → Word → Row → Bool
puts_one_of s new k = both (both (leb 1 k.class) (leb k.class (length new))) (same (put_for s k.class) (get_or new (k.class - 1) 0 ∷ []))

get_next : (w : Word) (k c : ℕ) → 1 ≤ k → k ≤ length w → get_or w (k - 1) 0 ≡ get_or (c ∷ w) k c
get_next w zero c h l = absurd (omega arith)
get_next w (suc k) c h l = let e : suc k - 1 ≡ k = omega arith in ap (λ (x : ℕ). get_or w x 0) e ∙ get_or_default w k 0 c (omega arith)

changed_is : (s : Step) (new : Word) → every (puts_one_of s new) (table_of s) ≡ true → (c : ℕ) → changed s c ≡ replaced (table_of s) new c ∷ []
unfolding put row_for
changed_is s new fits c =
    let r : ℕ = row_for s c in
    let x : ℕ = (row_at (table_of s) r).class in
    by (is_key s c)
    (λ k.
    let e : puts_one_of s new (row_at (table_of s) r) ≡ true = all_at (puts_one_of s new) (table_of s) fits r (key_inside s c k) in
    let i = both_0 (both (leb 1 x) (leb x (length new))) _ e in
    let low = leb-true 1 x (both_0 (leb 1 x) _ i) in
    let high = leb-true x (length new) (both_1 (leb 1 x) _ i) in
    rw k (same_eq (put_for s x) (get_or new (x - 1) 0 ∷ []) (both_1 (both (leb 1 x) (leb x (length new))) _ e) ∙ ap (λ (y : ℕ). y ∷ []) (get_next new x c low high)))
    (λ k. rw k (ap (λ (y : ℕ). get_or (c ∷ new) y c ∷ []) (sym (no_class s c k))))

pub last_changed : (c : ℕ) → changed normalize_post_last c ≡ last c ∷ []
unfolding table_of put_for A_1 same
last_changed c = changed_is normalize_post_last (hamza ∷ hamza ∷ hamza ∷ []) refl c ∙ ap (λ (x : ℕ). x ∷ []) (sym (last_rows c))

other_changed : (c : ℕ) → changed normalize_post_other c ≡ other c ∷ []
unfolding table_of put_for A_2 same
other_changed c = changed_is normalize_post_other (alef ∷ waw ∷ yeh ∷ []) refl c ∙ ap (λ (x : ℕ). x ∷ []) (sym (other_rows c))

pub becomes_other : (w : Word) → becomes normalize_post_other w ≡ map other w
unfolding becomes
becomes_other [] = refl
becomes_other (c ∷ w) = λ i. other_changed c i ++ becomes_other w i

pub maqsura_changed : (c : ℕ) → changed alef_maqsura c ≡ suffix_all_alef_maqsura (c ∷ [])
unfolding table_of put_for A_21 same
maqsura_changed c = changed_is alef_maqsura (yeh ∷ []) refl c ∙ sym (maqsura-row c)
