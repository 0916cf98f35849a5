-- A stem has at most as many bytes as the normalised word, so that 340 bytes are room enough for every stem. Assumes nothing.
use mathlib.Core.Path.{◌≡◌, refl, sym, ap, ◌∙◌}
use mathlib.Core.Bool.{Bool, true, false, false≢true}
use mathlib.Core.Logic.{⊎_elim}
use mathlib.Core.List.{List, [], ◌∷◌, ◌++◌, append_assoc}
use Prim.Native.Nat.{ℕ, zero, suc, ◌+◌, ◌<◌, ◌≤◌}
use native.Mathlib.Omega.{arith}
use lib.Dec.{ltb}
use lib.ListN.{length, get_or, length-append}
use borrow.Author.Tests.{lt-ltb, le-ltb}
use Rattle.definition.specs.Words.{Word, pick}
use Rattle.definition.specs.Tables.{A_4}
use Rattle.definition.specs.Search.{row_at}
use Rattle.definition.specs.Normal.{normalise}
use Rattle.definition.specs.Fronts.{Applied}
use Rattle.definition.specs.Stem.{stem, front, head_letter, run, back}
use Rattle.definition.specs.Floating.{unmarked, without_marks}
use Rattle.definition.specs.Demand3.{Change, last_hamza, other_alef, other_waw, other_yeh, last_yeh, fourth_alef, stays, HeadOf, no_head, one_head, Demand3}
use Rattle.definition.proofs.Main.{main_unmarked_demand3}
use Rattle.utf8.specs.Utf8.{encode1, encode}
use Rattle.utf8.proofs.Text.{encode-append}
use Rattle.floating_marks.proofs.Sizes.{unmarked-size}
use Rattle.arabic.proofs.Main.{main_fits}
use Rattle.std.specs.Prelude.{Result, Ok, Err}
use Rattle.stemmer.specs.declared.outcome.BadWord.{BadWord}
use Rattle.stemmer.specs.declared.outcome.BadWord.TheVariants.{TooLong, NotWellFormed}
use Rattle.stemmer.specs.declared.outcome.Refusal.TheVariants.{NoRoom}
use Rattle.stemmer.specs.Entries.{code_of, checked, after_checks, letters, bytes_of, fitting, answer, stem_bytes, stem_answer}
use Rattle.stemmer.proofs.Answers.{short, spelling}
use Rattle.lines.specs.Stems.{stem_room}

none_size : length (encode []) ≡ 0
unfolding encode
none_size = refl

cons_size : (c : ℕ) (w : Word) → length (encode (c ∷ w)) ≡ length (encode1 c) + length (encode w)
unfolding encode
cons_size c w = length-append (encode1 c) (encode w)

append-size : (u v : Word) → length (encode (u ++ v)) ≡ length (encode u) + length (encode v)
append-size u v = ap length (encode-append u v) ∙ length-append (encode u) (encode v)

-- a letter of two bytes
two : (c : ℕ) → 0x80 ≤ c → c < 0x800 → length (encode1 c) ≡ 2
unfolding encode1
two c h k = simp (le-ltb c 0x80 h, lt-ltb c 0x800 k)

-- a listed change keeps a letter's number of bytes
both-two : (c d : ℕ) → (0x80 ≤ c) × (c < 0x800) → (0x80 ≤ d) × (d < 0x800) → length (encode1 d) ≡ length (encode1 c)
both-two c d h k = two d k.0 k.1 ∙ sym (two c h.0 h.1)

change-size : {L F P : Type 0} {c d : ℕ} → Change L F P c d → length (encode1 d) ≡ length (encode1 c)
change-size {c = c} {d = d} (last_hamza l h k e) = both-two c d (omega arith, omega arith) (omega arith, omega arith)
change-size {c = c} {d = d} (other_alef l o e) =
    both-two c d
    (⊎_elim (λ x. (omega arith, omega arith)) (λ p. ⊎_elim (λ x. (omega arith, omega arith)) (λ x. (omega arith, omega arith)) p) o)
    (omega arith, omega arith)
change-size {c = c} {d = d} (other_waw l h e) = both-two c d (omega arith, omega arith) (omega arith, omega arith)
change-size {c = c} {d = d} (other_yeh l h e) = both-two c d (omega arith, omega arith) (omega arith, omega arith)
change-size {c = c} {d = d} (last_yeh l f h e) = both-two c d (omega arith, omega arith) (omega arith, omega arith)
change-size {c = c} {d = d} (fourth_alef f o e) =
    both-two c d
    (⊎_elim (λ x. (omega arith, omega arith)) (λ p. ⊎_elim (λ x. (omega arith, omega arith)) (λ x. (omega arith, omega arith)) p) o)
    (omega arith, omega arith)
change-size (stays a b o e) = ap (λ (x : ℕ). length (encode1 x)) e

-- letter for letter of one size
sizes : (u s : Word) → length s ≡ length u → ((i : ℕ) → i < length s → length (encode1 (get_or s i 0)) ≡ length (encode1 (get_or u i 0)))
    → length (encode s) ≡ length (encode u)
sizes [] [] e f = refl
sizes (c ∷ u) [] e f = absurd (omega arith)
sizes [] (d ∷ s) e f = absurd (omega arith)
sizes (c ∷ u) (d ∷ s) e f =
    let more = sizes u s (omega arith) (λ i h. f (suc i) (omega arith)) in
    omega (arith, f 0 (omega arith), more, cons_size c u, cons_size d s)

-- the head letter is one of two letters with which the front begins
of_two : (row x y : Word) (i : ℕ) → length row ≡ 2 → i < 2 → length (encode (get_or (row ++ x) i 0 ∷ [])) ≤ length (encode (row ++ y))
of_two [] x y i e h = absurd (omega arith)
of_two (a ∷ []) x y i e h = absurd (omega arith)
of_two (a ∷ b ∷ []) x y zero e h = omega (arith, none_size, cons_size a [], cons_size a (b ∷ y))
of_two (a ∷ b ∷ []) x y (suc zero) e h = omega (arith, none_size, cons_size b [], cons_size a (b ∷ y), cons_size b y)
of_two (a ∷ b ∷ []) x y (suc (suc i)) e h = absurd (omega arith)
of_two (a ∷ b ∷ c ∷ r) x y i e h = absurd (omega arith)

head_size : {n f h : Word} {ms : List Applied} (rest : Word) → n ≡ f ++ rest → HeadOf n f h ms → length (encode h) ≤ length (encode f)
head_size rest e (no_head z) = rw z (omega (arith, none_size))
head_size {n} {f} {h} rest e (one_head r i more a b l p z) =
    let row = (row_at A_4 r).letters in
    let q : n ≡ row ++ (more ++ rest) = e ∙ (ap (λ (t : Word). t ++ rest) p ∙ append_assoc row more rest) in
    rw (z, q, p) (of_two row (more ++ rest) more i l b)

stem-size : (w s : Word) → Demand3 w s → length (encode s) ≤ length (encode (normalise w))
stem-size w s d =
    let kept = sizes (head_letter w ++ run w) s d.size (λ i h. change-size (d.changes i h)) in
    let first = head_size (run w ++ back w) d.parts d.order.step1 in
    let parts = ap (λ (t : Word). length (encode t)) d.parts in
    omega (arith, kept, first, parts, append-size (head_letter w) (run w), append-size (front w) (run w ++ back w), append-size (run w) (back w))

-- 340 bytes are enough for the stem of a word that is not refused
stem-fits : (w : List ℕ) → checked w ≡ Ok tt → length (stem_bytes w) ≤ stem_room
unfolding bytes_of
stem-fits w e =
    let size : length (encode (letters w)) ≡ length w = ap length (sym (spelling w e)) in
    let few = short w e in
    let fewer = unmarked-size (letters w) in
    omega (arith, stem-size (unmarked (letters w)) (without_marks stem (letters w)) (main_unmarked_demand3 (letters w)), main_fits (unmarked (letters w)) (omega arith))

no_three : (k : Result (Unit {0}) BadWord) (d : Bool) (m : ℕ) → (k ≡ Ok tt → d ≡ false) → code_of (after_checks k (pick d (Err NoRoom) (Ok m))) ≡ 3 → ⊥
no_three (Err TooLong) d m f z = omega arith
no_three (Err NotWellFormed) d m f z = omega arith
no_three (Ok u) true m f z = false≢true (sym (f refl))
no_three (Ok u) false m f z = omega arith

pub never_three : (w : List ℕ) → code_of (stem_answer w stem_room) ≡ 3 → ⊥
unfolding answer fitting
never_three w =
    no_three (checked w) (ltb stem_room (length (stem_bytes w))) (length (stem_bytes w)) (λ e. le-ltb stem_room (length (stem_bytes w)) (stem-fits w e))
