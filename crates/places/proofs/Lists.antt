-- Places that never fall, and where the places of a normalised word come from. Assumes nothing.
use mathlib.Core.Path.{◌≡◌, refl, sym, ap, ◌∙◌, subst}
use mathlib.Core.Bool.{Bool, true, false, not}
use mathlib.Core.List.{List, [], ◌∷◌, ◌++◌, append_assoc, append-nil}
use Prim.Native.Nat.{ℕ, zero, suc, ◌+◌, ◌-◌, ◌≤◌, ◌<◌}
use native.Mathlib.Omega.{arith}
use lib.ListN.{length, take, drop, get_or, length-append, take-append-drop, get_or-append}
use lib.Seq.{drop-drop, get_or-append-add}
use borrow.Author.Tests.{not-true}
use Rattle.definition.specs.Words.{Word, pick}
use Rattle.definition.specs.Normal.{normal, normalise}
use Rattle.definition.specs.Floating.{floating, unmarked, without_marks, no_mark}
use Rattle.definition.specs.Demand3.{AllOf}
use Rattle.definition.proofs.Floating.{without-joined}
use Rattle.definition.proofs.Match.{by, by_le, both_0, both_1}
use Rattle.definition.proofs.Plain.{all_append, all_left, all_right}
use Rattle.utf8.specs.Utf8.{encode1, encode}
use Rattle.utf8.specs.Beside.{letter_starts}
use Rattle.utf8.proofs.Text.{encode-append}
use Rattle.places.specs.Places.{Typed, typed_from, typed, letters_of, places_of, marks_out, each_at, normal_places}
use Rattle.places.specs.Laws.{NeverFall, Origin}

-- ---- never falling
pub never_right : (a b : List ℕ) → NeverFall (a ++ b) → NeverFall b
unfolding NeverFall
never_right [] b h = h
never_right (p ∷ a) b h = never_right a b h.1

pub never_left : (a b : List ℕ) → NeverFall (a ++ b) → NeverFall a
unfolding NeverFall
never_left [] b h = tt
never_left (p ∷ a) b h = (all_left (λ (q : ℕ). p ≤ q) a b h.0, never_left a b h.1)

-- a part between may go
pub never_without : (a b c : List ℕ) → NeverFall (a ++ (b ++ c)) → NeverFall (a ++ c)
unfolding NeverFall
never_without [] b c h = never_right b c h
never_without (p ∷ a) b c h =
    let P : ℕ → Type 0 = λ (q : ℕ). p ≤ q in
    (all_append P a c (all_left P a (b ++ c) h.0) (all_right P b c (all_right P a (b ++ c) h.0)), never_without a b c h.1)

pub never_take : (n : ℕ) (l : List ℕ) → NeverFall l → NeverFall (take n l)
never_take n l h = never_left (take n l) (drop n l) (subst NeverFall (sym (take-append-drop n l)) h)

pub never_drop : (n : ℕ) (l : List ℕ) → NeverFall l → NeverFall (drop n l)
never_drop n l h = never_right (take n l) (drop n l) (subst NeverFall (sym (take-append-drop n l)) h)

-- two parts, one behind the other
pub never_parts : (a n b m : ℕ) (l : List ℕ) → a + n ≤ b → NeverFall l → NeverFall (take n (drop a l) ++ take m (drop b l))
never_parts a n b m l h f =
    let d : List ℕ = drop a l in
    let j : ℕ = b - (a + n) in
    let q : a + (n + j) ≡ b = omega arith in
    let e : drop j (drop n d) ≡ drop b l = drop-drop j n d ∙ drop-drop (n + j) a l ∙ ap (λ (i : ℕ). drop i l) q in
    let split : d ≡ take n d ++ (take j (drop n d) ++ (take m (drop b l) ++ drop m (drop b l))) =
    sym (take-append-drop n d) ∙ ap (λ (x : List ℕ). take n d ++ x)
    (sym (take-append-drop j (drop n d)) ∙ ap (λ (x : List ℕ). take j (drop n d) ++ x) (e ∙ sym (take-append-drop m (drop b l)))) in
    let g = never_without (take n d) (take j (drop n d)) (take m (drop b l) ++ drop m (drop b l)) (subst NeverFall split (never_drop a l f)) in
    never_left (take n d ++ take m (drop b l)) (drop m (drop b l)) (subst NeverFall (sym (append_assoc (take n d) (take m (drop b l)) (drop m (drop b l)))) g)

-- ---- places of a typed word
places_least : (p q : ℕ) (w : Word) → q ≤ p → AllOf (λ (x : ℕ). q ≤ x) (places_of (typed_from p w))
unfolding typed_from places_of
places_least p q [] h = tt
places_least p q (c ∷ w) h = (h, places_least (p + length (encode1 c)) q w (omega arith))

from_rise : (p : ℕ) (w : Word) → NeverFall (places_of (typed_from p w))
unfolding NeverFall typed_from places_of
from_rise p [] = tt
from_rise p (c ∷ w) = (places_least (p + length (encode1 c)) p w (omega arith), from_rise (p + length (encode1 c)) w)

from_letters : (p : ℕ) (w : Word) → letters_of (typed_from p w) ≡ w
unfolding typed_from letters_of
from_letters p [] = refl
from_letters p (c ∷ w) = ap (λ (x : Word). c ∷ x) (from_letters (p + length (encode1 c)) w)

pub typed-letters : (w : Word) → letters_of (typed w) ≡ w
unfolding typed
typed-letters w = from_letters 0 w

-- the place of a typed letter is the number of bytes before it
from_place : (p : ℕ) (before : Word) (c : ℕ) (behind : Word) → get_or (places_of (typed_from p (before ++ (c ∷ behind)))) (length before) 0 ≡ p + length (encode before)
unfolding typed_from places_of encode
from_place p [] c behind = omega arith
from_place p (d ∷ before) c behind = omega (arith, from_place (p + length (encode1 d)) before c behind, length-append (encode1 d) (encode before))

pub typed-place : (w before : Word) (c : ℕ) (behind : Word) → w ≡ before ++ (c ∷ behind) → get_or (places_of (typed w)) (length before) 0 ≡ length (encode before)
unfolding typed
typed-place w before c behind e = omega (arith, ap (λ (x : Word). get_or (places_of (typed_from 0 x)) (length before) 0) e, from_place 0 before c behind)

-- ---- without the floating marks
pub marks-letters : (ts : List Typed) → letters_of (marks_out ts) ≡ unmarked (letters_of ts)
unfolding marks_out letters_of unmarked
marks-letters [] = refl
marks-letters (t ∷ ts) =
    let g = marks-letters ts in
    by (floating t.letter) (λ e. rw e g) (λ e. rw e (ap (λ (x : Word). t.letter ∷ x) g))

pub typed_unmarked : (w : Word) → letters_of (marks_out (typed w)) ≡ unmarked w
typed_unmarked w = marks-letters (typed w) ∙ ap unmarked (typed-letters w)

marks-all : (P : ℕ → Type 0) (ts : List Typed) → AllOf P (places_of ts) → AllOf P (places_of (marks_out ts))
unfolding marks_out places_of
marks-all P [] h = tt
marks-all P (t ∷ ts) h =
    let g = marks-all P ts h.1 in
    by (floating t.letter) (λ e. rw e g) (λ e. rw e (h.0, g))

marks-rise : (ts : List Typed) → NeverFall (places_of ts) → NeverFall (places_of (marks_out ts))
unfolding marks_out places_of NeverFall
marks-rise [] h = tt
marks-rise (t ∷ ts) h =
    let g = marks-rise ts h.1 in
    by (floating t.letter) (λ e. rw e g) (λ e. rw e (marks-all (λ (q : ℕ). t.place ≤ q) ts h.0, g))

pub typed-rise : (w : Word) → NeverFall (places_of (marks_out (typed w)))
unfolding typed
typed-rise w = marks-rise (typed_from 0 w) (from_rise 0 w)

-- the typed letter t stands in the word w, at its place, and is no floating mark; the letters before it give n normalised letters
pub record Stands (w : Word) (n : ℕ) (t : Typed) : Type 0 where
  pub before : Word
  pub behind : Word
  pub typed : w ≡ before ++ (t.letter ∷ behind)
  pub place : t.place ≡ length (encode before)
  pub no_mark : floating t.letter ≡ false
  pub given : n ≡ length (without_marks normalise before)

-- and so do the letters ts one behind the other
abbrev pub AllStand : Word → ℕ → List Typed → Type 0
AllStand w n [] = Unit {0}
AllStand w n (t ∷ ts) = Stands w n t × AllStand w (n + length (normal t.letter)) ts

-- a letter more before: a floating mark gives none, and another what normalising gives for it
mark_more : (before : Word) (c : ℕ) → floating c ≡ true → without_marks normalise (before ++ (c ∷ [])) ≡ without_marks normalise before
unfolding unmarked normalise
mark_more before c m =
    without-joined before (c ∷ [])
    ∙ ap (λ (b : Bool). without_marks normalise before ++ normalise (pick b [] (c ∷ []))) m
    ∙ append-nil (without_marks normalise before)

letter_more : (before : Word) (c : ℕ) → floating c ≡ false → length (without_marks normalise (before ++ (c ∷ []))) ≡ length (without_marks normalise before) + length (normal c)
unfolding unmarked normalise
letter_more before c m =
    ap length (without-joined before (c ∷ []) ∙ ap (λ (b : Bool). without_marks normalise before ++ normalise (pick b [] (c ∷ []))) m
    ∙ ap (λ (x : Word). without_marks normalise before ++ x) (append-nil (normal c)))
    ∙ length-append (without_marks normalise before) (normal c)

from_stand : (w before rest : Word) (p n : ℕ) → w ≡ before ++ rest → p ≡ length (encode before) → n ≡ length (without_marks normalise before) → AllStand w n (marks_out (typed_from p rest))
unfolding typed_from marks_out
from_stand w before [] p n e q g = tt
from_stand w before (c ∷ rest) p n e q g =
    let one : length (encode (c ∷ [])) ≡ length (encode1 c) + 0 = unfold encode in length-append (encode1 c) [] in
    let l : length (encode (before ++ (c ∷ []))) ≡ length (encode before) + length (encode (c ∷ [])) =
    ap length (encode-append before (c ∷ [])) ∙ length-append (encode before) (encode (c ∷ [])) in
    let x = e ∙ sym (append_assoc before (c ∷ []) rest) in
    by (floating c)
    (λ m. rw m (from_stand w (before ++ (c ∷ [])) rest (p + length (encode1 c)) n x (omega arith) (g ∙ sym (ap length (mark_more before c m)))))
    (λ m. rw m (
      record { before = before; behind = rest; typed = e; place = q; no_mark = m; given = g },
      from_stand w (before ++ (c ∷ [])) rest (p + length (encode1 c)) (n + length (normal c)) x (omega arith) (omega (arith, g, letter_more before c m)),
    ))

pub typed_stand : (w : Word) → AllStand w 0 (marks_out (typed w))
unfolding typed encode unmarked normalise
typed_stand w = from_stand w [] w 0 0 refl refl refl

-- ---- places of a normalised word
pub each-length : (p : ℕ) (w : Word) → length (each_at p w) ≡ length w
unfolding each_at
each-length p [] = refl
each-length p (c ∷ w) = ap suc (each-length p w)

each-get_or : (p : ℕ) (w : Word) (i : ℕ) → i < length w → get_or (each_at p w) i 0 ≡ p
unfolding each_at
each-get_or p [] i h = absurd (omega arith)
each-get_or p (c ∷ w) zero h = refl
each-get_or p (c ∷ w) (suc i) h = each-get_or p w i (omega arith)

each-all : (P : ℕ → Type 0) (p : ℕ) (w : Word) → P p → AllOf P (each_at p w)
unfolding each_at
each-all P p [] h = tt
each-all P p (c ∷ w) h = (h, each-all P p w h)

normal-all : (P : ℕ → Type 0) (ts : List Typed) → AllOf P (places_of ts) → AllOf P (normal_places ts)
unfolding normal_places places_of
normal-all P [] h = tt
normal-all P (t ∷ ts) h =
    all_append P (each_at t.place (normal t.letter)) (normal_places ts) (each-all P t.place (normal t.letter) h.0) (normal-all P ts h.1)

each-rise : (p : ℕ) (w : Word) (l : List ℕ) → AllOf (λ (q : ℕ). p ≤ q) l → NeverFall l → NeverFall (each_at p w ++ l)
unfolding each_at NeverFall
each-rise p [] l a h = h
each-rise p (c ∷ w) l a h =
    let P : ℕ → Type 0 = λ (q : ℕ). p ≤ q in
    (all_append P (each_at p w) l (each-all P p w (omega arith)) a, each-rise p w l a h)

pub normal-rise : (ts : List Typed) → NeverFall (places_of ts) → NeverFall (normal_places ts)
unfolding normal_places places_of NeverFall
normal-rise [] h = tt
normal-rise (t ∷ ts) h =
    each-rise t.place (normal t.letter) (normal_places ts) (normal-all (λ (q : ℕ). t.place ≤ q) ts h.0) (normal-rise ts h.1)

pub normal-length : (ts : List Typed) → length (normal_places ts) ≡ length (normalise (letters_of ts))
unfolding normal_places normalise letters_of
normal-length [] = refl
normal-length (t ∷ ts) =
    let a = length-append (each_at t.place (normal t.letter)) (normal_places ts) in
    let b = length-append (normal t.letter) (normalise (letters_of ts)) in
    let c = each-length t.place (normal t.letter) in
    let d = normal-length ts in
    omega arith

-- every normalised letter comes from the typed letter at its place; n of them stand in front of these
pub normal-origin : (w : Word) (n : ℕ) (ts : List Typed) → AllStand w n ts → (i : ℕ) → i < length (normal_places ts) → Origin w (n + i) (get_or (normal_places ts) i 0)
unfolding normal_places
normal-origin w n [] h i l = absurd (omega arith)
normal-origin w n (t ∷ ts) h i l =
    let m : Word = normal t.letter in
    let e : List ℕ = each_at t.place m in
    let le : length e ≡ length m = each-length t.place m in
    let la : length (e ++ normal_places ts) ≡ length e + length (normal_places ts) = length-append e (normal_places ts) in
    by_le (suc i) (length m)
    (λ s. record {
      before = h.0.before;
      letter = t.letter;
      behind = h.0.behind;
      typed = h.0.typed;
      place = get_or-append e (normal_places ts) 0 i (omega arith) ∙ each-get_or t.place m i (omega arith) ∙ h.0.place;
      no_mark = h.0.no_mark;
      part = i;
      inside = omega arith;
      at = ap (λ (k : ℕ). k + i) h.0.given;
    })
    (λ s.
    let j : ℕ = i - length m in
    let x : n + length m + j ≡ n + i = omega arith in
    let y : i ≡ length e + j = omega arith in
    let b : get_or (normal_places ts) j 0 ≡ get_or (e ++ normal_places ts) i 0 =
    sym (ap (λ (k : ℕ). get_or (e ++ normal_places ts) k 0) y ∙ get_or-append-add e (normal_places ts) j 0) in
    subst (λ (k : ℕ). Origin w k (get_or (e ++ normal_places ts) i 0)) x
    (subst (λ (k : ℕ). Origin w (n + length m + j) k) b (normal-origin w (n + length m) ts h.1 j (omega arith))))

-- ---- a typed word's places are where its letters begin, and where it has no mark none is taken out
from_starts : (p : ℕ) (w : Word) → places_of (typed_from p w) ≡ letter_starts p w
unfolding places_of typed_from letter_starts
from_starts p [] = refl
from_starts p (c ∷ w) = ap (λ (ps : List ℕ). p ∷ ps) (from_starts (p + length (encode1 c)) w)

pub typed-starts : (w : Word) → places_of (typed w) ≡ letter_starts 0 w
unfolding typed
typed-starts w = from_starts 0 w

pub none_out : (ts : List Typed) → no_mark (letters_of ts) ≡ true → marks_out ts ≡ ts
unfolding letters_of marks_out
none_out [] h = refl
none_out (t ∷ ts) h =
    ap (λ (b : Bool). pick b (marks_out ts) (t ∷ marks_out ts)) (not-true (floating t.letter) (both_0 (not (floating t.letter)) _ h))
    ∙ ap (λ (us : List Typed). t ∷ us) (none_out ts (both_1 (not (floating t.letter)) _ h))
