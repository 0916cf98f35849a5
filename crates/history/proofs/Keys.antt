-- Steps that change single letters: their deeds are played in word order, or at the end of the word. Assumes nothing.
use mathlib.Core.Path.{◌≡◌, refl, sym, ap, ◌∙◌}
use mathlib.Core.Bool.{Bool, true, false, not}
use mathlib.Core.Logic.{inl, inr}
use mathlib.Core.List.{[], ◌∷◌, ◌++◌, append_assoc, append-nil}
use Prim.Native.Nat.{ℕ, ◌+◌, ◌-◌, ◌<◌}
use native.Mathlib.Omega.{arith}
use lib.Dec.{eqb}
use lib.ListN.{length, take, get_or, length-append}
use lib.Seq.{take_at}
use borrow.Author.Tests.{eqb-true, eq-eqb, ltb-true, not-true}
use Rattle.std.specs.List.{All}
use Rattle.std.proofs.lemmas.List.Elements.{All-nil, All-cons, All-append}
use Rattle.definition.specs.Words.{Word, pick, every, same, begins_with}
use Rattle.definition.specs.Tables.{Row, A_0, A_1, A_2, A_21}
use Rattle.definition.specs.Search.{row_at, longer, longest}
use Rattle.definition.specs.Normal.{gives, listed_for}
use Rattle.definition.specs.Tries.{Try, done, failed}
use Rattle.definition.specs.Endings.{Cutting}
use Rattle.definition.specs.Demand3.{AllOf}
use Rattle.definition.specs.Floating.{floating_marks}
use Rattle.definition.proofs.Match.{both_0, both_1, by, clash, same_eq}
use Rattle.definition.proofs.Found.{Found, all_at, longest-found}
use Rattle.definition.proofs.Plain.{all_append}
use Rattle.history.specs.Steps.{Step, floating_mark, normalize_pre, alef_maqsura, normalize_post_last, normalize_post_other, table_of, put_for, Deed, row_of, put}
use Rattle.history.specs.Steps.{by as deed_by}
use Rattle.history.specs.History.{Letters, whole, start, first_by, last_by, play_by, play, row_for, is_key, keys_in, last_of, but_last, maqsura_deeds, post_deeds}
use Rattle.history.specs.Laws.{Listed, Replaces}
use Rattle.history.proofs.Playing.{Plays, plays_none, plays_one, plays_both}

pub key_inside : (s : Step) (c : ℕ) → is_key s c ≡ true → row_for s c < length (table_of s)
unfolding is_key
key_inside s c k = ltb-true (row_for s c) (length (table_of s)) k

-- what holds of the deed of each listed row holds of each deed of a word's keys
pub all_keys : (P : Deed → Type 0) (s : Step) → ((r : ℕ) → Listed (deed_by s r) → P (deed_by s r)) → (w : Word) → All P (keys_in s w)
unfolding keys_in
all_keys P s h [] = All-nil P
all_keys P s h (c ∷ w) = go (is_key s c) refl (all_keys P s h w)
  where
    go : (b : Bool) → is_key s c ≡ b → All P (keys_in s w) → All P (pick b (deed_by s (row_for s c) ∷ keys_in s w) (keys_in s w))
    go true k m = All-cons P (deed_by s (row_for s c)) (keys_in s w) (h (row_for s c) (key_inside s c k)) m
    go false k m = m

-- likewise of the deeds that behind verb and noun change the last letter, and of those of item 5
pub all_maqsura : (P : Deed → Type 0) → ((r : ℕ) → Listed (deed_by alef_maqsura r) → P (deed_by alef_maqsura r)) → (y : Try Cutting) → All P (maqsura_deeds y)
unfolding maqsura_deeds
all_maqsura P h (done v) = All-nil P
all_maqsura P h (failed v) = all_keys P alef_maqsura h (last_of v.text)

pub all_post : (P : Deed → Type 0) → ((r : ℕ) → Listed (deed_by normalize_post_last r) → P (deed_by normalize_post_last r)) → ((r : ℕ) → Listed (deed_by normalize_post_other r) → P (deed_by normalize_post_other r))
    → (w : Word) → All P (post_deeds w)
unfolding post_deeds
all_post P l o w = All-append P (keys_in normalize_post_last (last_of w)) (keys_in normalize_post_other (but_last w)) (all_keys P normalize_post_last l (last_of w)) (all_keys P normalize_post_other o (but_last w))

-- ---- what stands for each letter
abbrev pub changed : Step → ℕ → Word
changed s c = pick (is_key s c) (put (deed_by s (row_for s c))) (c ∷ [])

unfoldable pub becomes : Step → Word → Word
becomes s [] = []
becomes s (c ∷ w) = changed s c ++ becomes s w

-- ---- the row of a key is the key, where each row has one letter
abbrev pub one_letter : Row → Bool
one_letter k = eqb (length k.letters) 1

module _ (s : Step) (one : every one_letter (table_of s) ≡ true) where
  pub key_row : (c : ℕ) → is_key s c ≡ true → row_of (deed_by s (row_for s c)) ≡ c ∷ []
  unfolding row_of row_for begins_with
  key_row c k = go (longest-found (begins_with (c ∷ [])) (table_of s))
    where
      inside : row_for s c < length (table_of s)
      inside = key_inside s c k

      l1 : length (row_at (table_of s) (row_for s c)).letters ≡ 1
      l1 = eqb-true (length (row_at (table_of s) (row_for s c)).letters) 1 (all_at one_letter (table_of s) one (row_for s c) inside)

      go : Found (begins_with (c ∷ [])) (table_of s) (row_for s c) → (row_at (table_of s) (row_for s c)).letters ≡ c ∷ []
      go (inl f) = sym (ap (λ (n : ℕ). take n (c ∷ [])) (sym l1) ∙ same_eq (take (length (row_at (table_of s) (row_for s c)).letters) (c ∷ [])) (row_at (table_of s) (row_for s c)).letters f.1)
      go (inr f) = absurd (omega (arith, inside))

  -- so a key in its place gives way to what is put
  replaces_key : (c : ℕ) (a z : Word) → is_key s c ≡ true → Replaces (deed_by s (row_for s c)) (a ++ (c ∷ z)) (a ++ (put (deed_by s (row_for s c)) ++ z))
  replaces_key c a z k = record {
    listed = key_inside s c k;
    before = a;
    behind = z;
    had = ap (λ (x : Word). a ++ (x ++ z)) (sym (key_row c k));
    has = refl;
  }

-- ---- every key of the word in its turn

abbrev Free : Step → ℕ → Type 0
Free s c = is_key s c ≡ false

abbrev free : Step → Row → Bool
free s k = every (λ (c : ℕ). not (is_key s c)) (put_for s k.class)

free_all : (s : Step) (w : Word) → every (λ (c : ℕ). not (is_key s c)) w ≡ true → AllOf (Free s) w
free_all s [] e = tt
free_all s (c ∷ w) e = (not-true (is_key s c) (both_0 (not (is_key s c)) _ e), free_all s w (both_1 (not (is_key s c)) _ e))

-- each row has one letter, what is put holds no key, and the first letter of the kind is changed
pub record FirstKeys (s : Step) : Type 0 where
  pub one : every one_letter (table_of s) ≡ true
  pub gone : every (free s) (table_of s) ≡ true
  pub how : (row new : Word) (p : Letters) → play_by s row new p ≡ start (first_by (get_or row 0 0) new (whole p))

pub first_marks : FirstKeys floating_mark
unfolding table_of floating_marks put_for play_by
first_marks = record { one = refl; gone = refl; how = λ row new p. refl }

pub first_pre : FirstKeys normalize_pre
unfolding table_of A_0 put_for gives listed_for is_key row_for longest longer begins_with same play_by
first_pre = record { one = refl; gone = refl; how = λ row new p. refl }

pub first_other : FirstKeys normalize_post_other
unfolding table_of A_2 put_for is_key row_for longest longer begins_with same play_by
first_other = record { one = refl; gone = refl; how = λ row new p. refl }

-- the first c stands behind letters that are no keys
first_at : (s : Step) (c : ℕ) (new a w : Word) → is_key s c ≡ true → AllOf (Free s) a → first_by c new (a ++ (c ∷ w)) ≡ a ++ (new ++ w)
unfolding first_by
first_at s c new [] w k h = ap (λ (b : Bool). pick b (new ++ w) (c ∷ first_by c new w)) (eq-eqb c c refl)
first_at s c new (d ∷ a) w k h = by (eqb d c)
    (λ e. absurd (clash k (sym (ap (is_key s) (eqb-true d c e)) ∙ h.0)))
    (λ e. ap (λ (b : Bool). pick b (new ++ (a ++ (c ∷ w))) (d ∷ first_by c new (a ++ (c ∷ w)))) e
    ∙ ap (λ (x : Word). d ∷ x) (first_at s c new a w k h.1))

module _ (s : Step) (f : FirstKeys s) where
  put_free : (c : ℕ) → is_key s c ≡ true → AllOf (Free s) (put (deed_by s (row_for s c)))
  unfolding put
  put_free c k =
      free_all s (put_for s (row_at (table_of s) (row_for s c)).class) (all_at (free s) (table_of s) f.gone (row_for s c) (key_inside s c k))

  plays_key : (c : ℕ) (a z : Word) → is_key s c ≡ true → AllOf (Free s) a
      → Plays (start (a ++ (c ∷ z))) (deed_by s (row_for s c) ∷ []) (start (a ++ (put (deed_by s (row_for s c)) ++ z)))
  unfolding play
  plays_key c a z k h =
      let d : Deed = deed_by s (row_for s c) in
      plays_one (start (a ++ (c ∷ z))) (start (a ++ (put d ++ z))) d
      (f.how (row_of d) (put d) (start (a ++ (c ∷ z)))
      ∙ ap (λ (x : Word). start (first_by (get_or x 0 0) (put d) (a ++ (c ∷ z)))) (key_row s f.one c k)
      ∙ ap start (first_at s c (put d) a z k h))
      (replaces_key s f.one c a z k)

  -- behind letters a that are no keys, and before letters z that are left alone
  pub plays_keys : (w a z : Word) → AllOf (Free s) a → Plays (start (a ++ (w ++ z))) (keys_in s w) (start (a ++ (becomes s w ++ z)))
  unfolding keys_in becomes
  plays_keys [] a z h = plays_none (start (a ++ z))
  plays_keys (c ∷ w) a z h = by (is_key s c)
      (λ k.
      let d : Deed = deed_by s (row_for s c) in
      let more : Plays (start ((a ++ put d) ++ (w ++ z))) (keys_in s w) (start ((a ++ put d) ++ (becomes s w ++ z))) = plays_keys w (a ++ put d) z (all_append (Free s) a (put d) h (put_free c k)) in
      let both : Plays (start (a ++ (c ∷ (w ++ z)))) (d ∷ keys_in s w) (start (a ++ ((put d ++ becomes s w) ++ z))) =
      plays_both (d ∷ []) (keys_in s w) (start (a ++ (c ∷ (w ++ z)))) (start (a ++ (put d ++ (w ++ z)))) (start (a ++ ((put d ++ becomes s w) ++ z)))
      (plays_key c a (w ++ z) k h)
      (simp append_assoc (simp append_assoc at more)) in
      rw k both)
      (λ k.
      let more : Plays (start ((a ++ (c ∷ [])) ++ (w ++ z))) (keys_in s w) (start ((a ++ (c ∷ [])) ++ (becomes s w ++ z))) = plays_keys w (a ++ (c ∷ [])) z (all_append (Free s) a (c ∷ []) h (k, tt)) in
      rw k (simp append_assoc at more))

-- ---- a key at the end of the word

-- each row has one letter, and the last letter is changed
pub record LastKey (s : Step) : Type 0 where
  pub one : every one_letter (table_of s) ≡ true
  pub how : (row new : Word) (p : Letters) → play_by s row new p ≡ start (last_by row new (whole p))

pub last_maqsura : LastKey alef_maqsura
unfolding table_of A_21 play_by
last_maqsura = record { one = refl; how = λ row new p. refl }

pub last_post : LastKey normalize_post_last
unfolding table_of A_1 play_by
last_post = record { one = refl; how = λ row new p. refl }

last_at : (a new : Word) (c : ℕ) → last_by (c ∷ []) new (a ++ (c ∷ [])) ≡ a ++ new
unfolding last_by
last_at a new c =
    let l : length (a ++ (c ∷ [])) ≡ length a + 1 = length-append a (c ∷ []) in
    let m : length a ≡ length (a ++ (c ∷ [])) - 1 = omega arith in
    ap (λ (x : Word). x ++ new) (take_at a (c ∷ []) (length (a ++ (c ∷ [])) - 1) m)

pub plays_last : (s : Step) → LastKey s → (a : Word) (c : ℕ) → Plays (start (a ++ (c ∷ []))) (keys_in s (c ∷ [])) (start (a ++ changed s c))
unfolding keys_in play
plays_last s l a c = by (is_key s c)
    (λ k.
    let d : Deed = deed_by s (row_for s c) in
    let r : Replaces d (a ++ (c ∷ [])) (a ++ (put d ++ [])) = replaces_key s l.one c a [] k in
    rw k (plays_one (start (a ++ (c ∷ []))) (start (a ++ put d)) d
    (l.how (row_of d) (put d) (start (a ++ (c ∷ [])))
    ∙ ap (λ (x : Word). start (last_by x (put d) (a ++ (c ∷ [])))) (key_row s l.one c k)
    ∙ ap start (last_at a (put d) c))
    (simp append-nil at r)))
    (λ k. rw k (plays_none (start (a ++ (c ∷ [])))))
