-- The head letter is the one whose place it has. Assumes nothing.
use mathlib.Core.Path.{◌≡◌, refl, sym, ap, ◌∙◌, subst}
use mathlib.Core.Bool.{Bool, true, false}
use mathlib.Core.List.{[], ◌∷◌, ◌++◌}
use mathlib.Core.Option.{Option, none, some}
use Prim.Native.Nat.{ℕ, ◌≤◌, ◌<◌}
use native.Mathlib.Omega.{arith}
use lib.Dec.{eqb}
use lib.ListN.{length, get_or}
use borrow.Author.Tests.{eqb-true}
use Rattle.definition.specs.Letters.{alef_hamza_above, waw_hamza}
use Rattle.definition.specs.Words.{Word, both, every, same, begins_with}
use Rattle.definition.specs.Tables.{Row, A_4}
use Rattle.definition.specs.Search.{row_at, taken}
use Rattle.definition.specs.Tries.{in_turn, first_of, attempt}
use Rattle.definition.specs.Kind.{Kind, kind, if_open}
use Rattle.definition.specs.Fronts.{PrefixStep, prefix_step1, prefix_step2, prefix_step3a_noun, prefix_step3b_noun, prefix_step3_verb, prefix_step4_verb, prefix, replacements, not_at, at, front_row, replacement, unreplaced, Fronting, text, change, begins_with_any, apply_by, apply_unless, apply, prefix_step3_verb_in_turn, prefix_step3_choices, prefix_steps, started, fronts}
use Rattle.definition.specs.Stem.{fronting, front, head_letter}
use Rattle.definition.proofs.Match.{both_0, both_1, by, same_eq}
use Rattle.definition.proofs.Found.{taken_some, all_at}
use Rattle.definition.proofs.Triples.{Ends, ends-after, does_then, does_attempt, Keeps, keeps_first, keeps_then, keeps_if}
use Rattle.definition.proofs.FrontRows.{replaced_by}
use Rattle.places.specs.Places.{head_from}

-- there is no head letter; or the front begins with two letters, and the head letter is the one of them that head_from says
pub data Headed (front head : Word) : Type 0 where
  unheaded : head ≡ [] → Headed front head
  headed : (c d : ℕ) (rest : Word) → front ≡ c ∷ d ∷ rest → head ≡ get_or (c ∷ d ∷ []) (head_from (c ∷ d ∷ [])) 0 ∷ [] → Headed front head

-- ---- which of the two letters
pub from_two : (c d : ℕ) (rest : Word) → head_from (c ∷ d ∷ rest) ≡ head_from (c ∷ d ∷ [])
unfolding head_from begins_with
from_two c d rest = refl

pub from_least : (w : Word) → head_from w ≤ 1
unfolding head_from
from_least w = by (begins_with w (alef_hamza_above ∷ waw_hamza ∷ [])) (λ e. rw e (omega arith)) (λ e. rw e (omega arith))

-- ---- Step1's rows
abbrev fits : Row → Bool
fits k = both (eqb (length k.letters) 2) (same (replaced_by prefix_step1 k) (get_or k.letters (head_from k.letters) 0 ∷ []))

rows_fit : every fits (prefix prefix_step1).table ≡ true
unfolding prefix replacements A_4 same begins_with head_from
rows_fit = refl

two_letters : (w : Word) → length w ≡ 2 → w ≡ get_or w 0 0 ∷ get_or w 1 0 ∷ []
two_letters [] e = absurd (omega arith)
two_letters (c ∷ []) e = absurd (omega arith)
two_letters (c ∷ d ∷ []) e = refl
two_letters (c ∷ d ∷ x ∷ w) e = absurd (omega arith)

pub row_headed : (r : ℕ) → r < length (prefix prefix_step1).table → Headed (front_row (at prefix_step1 r)) (replacement (at prefix_step1 r))
unfolding front_row replacement
row_headed r h =
    let k : Row = row_at (prefix prefix_step1).table r in
    let w : Word = k.letters in
    let e : fits k ≡ true = all_at fits (prefix prefix_step1).table rows_fit r h in
    let t : w ≡ get_or w 0 0 ∷ get_or w 1 0 ∷ [] = two_letters w (eqb-true (length w) 2 (both_0 _ _ e)) in
    let n : replaced_by prefix_step1 k ≡ get_or w (head_from w) 0 ∷ [] = same_eq _ _ (both_1 (eqb (length w) 2) _ e) in
    headed (get_or w 0 0) (get_or w 1 0) [] t (n ∙ ap (λ (x : Word). get_or x (head_from x) 0 ∷ []) t)

-- ---- the steps
abbrev P : Fronting → Type 0
P f = Headed f.front f.head_letter

-- a longer front keeps the head letter
pub more : (front head x : Word) → Headed front head → Headed (front ++ x) head
more front head x (unheaded e) = unheaded e
more front head x (headed c d rest e q) = headed c d (rest ++ x) (ap (λ (y : Word). y ++ x) e) q

module _ (st : PrefixStep) (f : Fronting) where
  step_ends : P f → ((r : ℕ) → r < length (prefix st).table → P (change st f (at st r))) → Ends P P (apply st f)
  unfolding apply
  step_ends n y = bar (begins_with_any f.rest (not_at st))
    where
      go : (o : Option ℕ) → taken (begins_with f.rest) (prefix st) (length (text f)) ≡ o → Ends P P (apply_by st f o)
      go none q = n
      go (some r) q = y r (taken_some (begins_with f.rest) (prefix st) (length (text f)) r q).inside

      bar : (b : Bool) → Ends P P (apply_unless b st f)
      bar true = n
      bar false = go (taken (begins_with f.rest) (prefix st) (length (text f))) refl

does_1 : (s : Word) → Ends P P (apply prefix_step1 (started s))
unfolding started change
does_1 s = step_ends prefix_step1 (started s) (unheaded refl) (λ r h. row_headed r h)

module _ (f : Fronting) (p : P f) where
  keeps_2 : Ends P P (apply prefix_step2 f)
  unfolding change
  keeps_2 = step_ends prefix_step2 f p (λ r h. more f.front f.head_letter (unreplaced (at prefix_step2 r)) p)

  keeps_3a : Ends P P (apply prefix_step3a_noun f)
  unfolding change
  keeps_3a = step_ends prefix_step3a_noun f p (λ r h. more f.front f.head_letter (unreplaced (at prefix_step3a_noun r)) p)

  keeps_3b : Ends P P (apply prefix_step3b_noun f)
  unfolding change
  keeps_3b = step_ends prefix_step3b_noun f p (λ r h. more f.front f.head_letter (unreplaced (at prefix_step3b_noun r)) p)

  keeps_3v : Ends P P (apply prefix_step3_verb f)
  unfolding change
  keeps_3v = step_ends prefix_step3_verb f p (λ r h. more f.front f.head_letter (unreplaced (at prefix_step3_verb r)) p)

  keeps_4 : Ends P P (apply prefix_step4_verb f)
  unfolding change
  keeps_4 = step_ends prefix_step4_verb f p (λ r h. more f.front f.head_letter (unreplaced (at prefix_step4_verb r)) p)

keeps_verb : (k : Kind) → Keeps P (if_open k (in_turn prefix_step3_verb_in_turn))
keeps_verb k = keeps_if P k (in_turn prefix_step3_verb_in_turn)
    (keeps_then P (attempt (apply prefix_step3_verb)) (apply prefix_step4_verb) (does_attempt P P P (apply prefix_step3_verb) keeps_3v) keeps_4)

abbrev Starts : Word → Fronting → Type 0
Starts s f = f ≡ started s

pub fronts_headed : (k : Kind) (s : Word) → Headed (fronts k s).front (fronts k s).head_letter
unfolding fronts prefix_steps
fronts_headed k s = ends-after P (prefix_steps k (started s)) (
    does_then (Starts s) P P P (attempt (apply prefix_step1)) _
    (does_attempt (Starts s) P P (apply prefix_step1) (λ f e. subst (λ (x : Fronting). Ends P P (apply prefix_step1 x)) (sym e) (does_1 s)))
    (keeps_then P (attempt (apply prefix_step2)) (first_of (prefix_step3_choices k (in_turn prefix_step3_verb_in_turn)))
    (does_attempt P P P (apply prefix_step2) keeps_2)
    (keeps_first P (prefix_step3_choices k (in_turn prefix_step3_verb_in_turn)) (keeps_3a, (keeps_3b, (keeps_verb k, tt)))))
    (started s) refl)

pub head_of : (w : Word) → Headed (front w) (head_letter w)
unfolding front head_letter fronting
head_of w = fronts_headed (kind w) _
