-- The laws of a branch in a nest of alternatives, whatever an environment stands for. Assumes nothing.
use mathlib.Core.Path.{◌≡◌, refl, sym, ap, ◌∙◌, subst}
use Rattle.std.specs.Prelude.{Result, Ok, Err, MatchResult, IsOkAnd}
use mathlib.Core.List.{List, [], ◌∷◌}
use Prim.Native.Nat.{ℕ, ◌≤◌}
use native.Mathlib.Omega.{arith}
use lib.ListN.{length}
use Rattle.definition.specs.Tries.{Try, done, failed, Step, after, and_then, if_failed, nothing, ◌then_try◌, attempt, again}
use Rattle.definition.specs.Endings.{Cutting, uncut, cut, verb_step1, verb_step2a, verb_step2b, verb_step2c, noun_step1b, noun_step2a, noun_step2b, noun_step2c1, noun_step2c2, noun_step3, verb, noun, endings, suffix_all_alef_maqsura, maqsura_if_failed}
use Rattle.definition.specs.Tables.{A_21}
use Rattle.definition.specs.StepRow.{alef_maqsura, step_row}
use Rattle.definition.specs.Words.{Word}
use Rattle.definition.specs.Fronts.{Fronting, prefix_step1, prefix_step2, prefix_step3a_noun, prefix_step3b_noun, prefix_step3_verb, prefix_step4_verb, apply, prefix_steps}
use Rattle.definition.specs.Kind.{Kind, if_open}
use Rattle.definition.proofs.Tried.{first_from_lem}
use Rattle.snowball.specs.declared.env.Env.{Env}
use Rattle.snowball.specs.Stands.{Stands}
use Rattle.snowball.specs.Stands.{handed_back}
use Rattle.arabic.specs.Tried.{Answers}
use Rattle.arabic.specs.declared.tried.Counted.{Counted}
use Rattle.arabic.specs.declared.tried.Searched.{Searched}
use Rattle.arabic.specs.Endings.{at_end, Ends, Ready, Gives, maqsura_row, EndingsCut}
use Rattle.arabic.specs.Fronts.{Passed, Fronts, GivesThird, GivesPassed}
use Rattle.arabic.specs.Changes.{cut_number, cut_numbers}
use Rattle.arabic.proofs.Noting.{in_order-length, noted_same}
use Rattle.arabic.proofs.Repeat.{after-fits}
use Rattle.arabic.specs.Nests.{after_step1, after_step1b, by_step1b, noun_first, verb_steps, prefix_step3}

module _ {A : Type 0} (S F : Env → A → Type 0) where
  -- the alternative behind t, which is tried where t has failed; where it fails too, G holds
  pub or_else : (G : Env → A → Type 0) (t r : Result Env Env) (g : Step A) → MatchResult t (λ e. r ≡ Ok e) (λ e. (v : A) → F e v → Answers S G r (g v)) → (y : Try A) → Answers S F t y
      → Answers S G r (if_failed y g)
  or_else G (Ok e) r g k (done a) h = subst (λ (x : Result Env Env). Answers S G x (done a)) (sym k) h
  or_else G (Ok e) r g k (failed a) h = absurd h
  or_else G (Err e) r g k (done a) h = absurd h
  or_else G (Err e) r g k (failed a) h = k a h

module _ {A : Type 0} (S : Env → A → Type 0) where
  -- what follows t where t has succeeded
  pub and_next : (t r : Result Env Env) (g : Step A) → MatchResult t (λ e. (v : A) → S e v → Answers S S r (g v)) (λ e. r ≡ Err e) → (y : Try A) → Answers S S t y → Answers S S r (and_then y g)
  and_next (Ok e) r g k (done a) h = k a h
  and_next (Ok e) r g k (failed a) h = absurd h
  and_next (Err e) r g k (done a) h = absurd h
  and_next (Err e) r g k (failed a) h = subst (λ (x : Result Env Env). Answers S S x (failed a)) (sym k) h

  -- what a step leaves, where nothing is the last alternative: e is the environment, and z what is tried
  pub left_is : (t : Result Env Env) (y z : Try A) (e : Env) → if_failed y nothing ≡ z → e ≡ handed_back t → Answers S S t y → (a : A) × ((z ≡ done a) × S e a)
  left_is (Ok x) (done a) z e q p h = (a, (sym q, subst (λ (i : Env). S i a) (sym p) h))
  left_is (Ok x) (failed a) z e q p h = absurd h
  left_is (Err x) (done a) z e q p h = absurd h
  left_is (Err x) (failed a) z e q p h = (a, (sym q, subst (λ (i : Env). S i a) (sym p) h))

  -- what a step leaves, whether it succeeds or not
  pub left_after : (t : Result Env Env) (y : Try A) (e : Env) → e ≡ handed_back t → Answers S S t y → S e (after y)
  left_after (Ok x) (done a) e p h = subst (λ (i : Env). S i a) (sym p) h
  left_after (Ok x) (failed a) e p h = absurd h
  left_after (Err x) (done a) e p h = absurd h
  left_after (Err x) (failed a) e p h = subst (λ (i : Env). S i a) (sym p) h

-- where a step has failed, what it leaves is ready for the next alternative
pub ready_err : (ps : List ℕ) (t : Result Env Env) (y : Try Cutting) → Gives ps t y → (e : Env) → t ≡ Err e → Ready e
ready_err ps t y g e q = go y (subst (λ (r : Result Env Env). Gives ps r y) q g)
  where
    go : (y : Try Cutting) → Gives ps (Err e) y → Ready e
    go (done a) h = absurd h
    go (failed a) h = (a, (ps, h))

-- ---- the verb, as straight-line code tries it
pub after_step1_is : (v : Cutting) → if_failed (if_failed (cut verb_step2a v) (cut verb_step2c)) nothing ≡ after_step1 v
unfolding after_step1
after_step1_is v = sym (first_from_lem (cut verb_step2a) (cut verb_step2c ∷ nothing ∷ []) v)

pub verb_is : (v : Cutting) → if_failed (if_failed (and_then (and_then (cut verb_step1 v) (again (length v.text) (cut verb_step1))) after_step1) (cut verb_step2b)) (cut verb_step2a) ≡ verb v
unfolding verb after_step1 ◌then_try◌
verb_is v = sym (first_from_lem (cut verb_step1 then_try again (length v.text) (cut verb_step1) then_try after_step1) (cut verb_step2b ∷ cut verb_step2a ∷ []) v)

-- what a repetition of Step1 leaves is ready for what follows it
pub repeated_ready : (e r : Env) → Ready e → ((ps : List ℕ) (v : Cutting) → Ends ps e v → (n : ℕ) → length v.text ≤ n → (w : Cutting) × ((again n (cut verb_step1) v ≡ done w) × Ends ps r w)) → Ready r
repeated_ready e r p f = let q = f p.1.0 p.0 p.1.1 (length p.0.text) (omega arith) in (q.0, (p.1.0, q.1.1))

-- and what follows it
pub behind_step1 : (e r x : Env) → ((ps : List ℕ) (v : Cutting) → Ends ps e v → (n : ℕ) → length v.text ≤ n → (w : Cutting) × ((again n (cut verb_step1) v ≡ done w) × Ends ps r w))
    → ((ps : List ℕ) (v : Cutting) → Ends ps r v → (w : Cutting) × ((after_step1 v ≡ done w) × Ends ps x w))
    → (ps : List ℕ) (v : Cutting) → Ends ps e v → (n : ℕ) → length v.text ≤ n → (w : Cutting) × ((and_then (again n (cut verb_step1) v) after_step1 ≡ done w) × Ends ps x w)
behind_step1 e r x f g ps v st n h =
    let q = f ps v st n h in
    let a = g ps q.0 q.1.1 in
    (a.0, (ap (λ (y : Try Cutting). and_then y after_step1) q.1.0 ∙ a.1.0, a.1.1))

-- Step1 and what follows it, where r is what is made of its answer t
pub by_step1 : (ps : List ℕ) (t r : Result Env Env) (v : Cutting)
    → MatchResult t (λ e. IsOkAnd r (λ x. (qs : List ℕ) (u : Cutting) → Ends qs e u → (n : ℕ) → length u.text ≤ n → (w : Cutting) × ((and_then (again n (cut verb_step1) u) after_step1 ≡ done w) × Ends qs x w))) (λ e. r ≡ Err e)
    → Gives ps t (cut verb_step1 v) → Gives ps r (and_then (and_then (cut verb_step1 v) (again (length v.text) (cut verb_step1))) after_step1)
by_step1 ps t r v k = go t r k (cut verb_step1 v) (length v.text) (after-fits verb_step1 v)
  where
    go : (t r : Result Env Env)
        → MatchResult t (λ e. IsOkAnd r (λ x. (qs : List ℕ) (u : Cutting) → Ends qs e u → (n : ℕ) → length u.text ≤ n → (w : Cutting) × ((and_then (again n (cut verb_step1) u) after_step1 ≡ done w) × Ends qs x w))) (λ e. r ≡ Err e)
        → (y : Try Cutting) (n : ℕ) → length (after y).text ≤ n → Gives ps t y → Gives ps r (and_then (and_then y (again n (cut verb_step1))) after_step1)
    go (Ok e) (Ok x) k (done u) n l h = let q = k ps u h n l in subst (Gives ps (Ok x)) (sym q.1.0) q.1.1
    go (Ok e) (Err x) k (done u) n l h = absurd k
    go (Ok e) r k (failed u) n l h = absurd h
    go (Err e) r k (done u) n l h = absurd h
    go (Err e) r k (failed u) n l h = subst (λ (x : Result Env Env). Gives ps x (failed u)) (sym k) h

-- ---- the noun
pub after_step1b_is : (v : Cutting) → if_failed (if_failed (cut noun_step2a v) (cut noun_step2b)) (cut noun_step2c1) ≡ after_step1b v
unfolding after_step1b
after_step1b_is v = sym (first_from_lem (cut noun_step2a) (cut noun_step2b ∷ cut noun_step2c1 ∷ []) v)

pub by_step1b_is : (v : Cutting) → and_then (cut noun_step1b v) after_step1b ≡ by_step1b v
unfolding by_step1b ◌then_try◌
by_step1b_is v = refl

pub noun_first_is : (k : Kind) (v : Cutting) → if_failed (if_failed (if_failed (if_failed (cut noun_step2c2 v) by_step1b) (if_open k (cut noun_step2a))) (cut noun_step2b)) nothing ≡ noun_first k v
unfolding noun_first
noun_first_is k v = sym (first_from_lem (cut noun_step2c2) (by_step1b ∷ if_open k (cut noun_step2a) ∷ cut noun_step2b ∷ nothing ∷ []) v)

pub noun_is : (k : Kind) (v : Cutting) → and_then (noun_first k v) (cut noun_step3) ≡ noun k v
unfolding noun noun_first by_step1b after_step1b ◌then_try◌
noun_is k v = refl

-- ---- item 3
pub endings_is : (k : Kind) (w : Word) → if_failed (if_open k verb (uncut w)) (noun k) ≡ endings k w
unfolding endings
endings_is k w = sym (first_from_lem (if_open k verb) (noun k ∷ []) (uncut w))

-- item 3 whole, where verb and noun leave y
abbrev Leaves : List ℕ → Try Cutting → Searched Counted → Type 0
Leaves ps y r = Stands r.outcome.env (at_end ps (maqsura_if_failed y (after y).text)) × EndingsCut y r

how_many : (ps : List ℕ) (e : Env) (v : Cutting) → Ends ps e v → e.made ≡ length v.cuts
how_many ps e v g = g.noted.made ∙ in_order-length cut_number v.cuts

pub maqsura-done : (ps : List ℕ) (e : Env) (y : Try Cutting) → Gives ps (Ok e) y → Leaves ps y (record { row = length A_21; outcome = record { endings = e.made; env = e } })
unfolding maqsura_if_failed maqsura_row
maqsura-done ps e (done v) g = (g.stands, record { row = refl; noted = g.noted; number = how_many ps e v g })
maqsura-done ps e (failed v) g = absurd g

pub maqsura-failed : (ps : List ℕ) (e : Env) (r : Searched Env) (y : Try Cutting) → Gives ps (Err e) y
    → ((w : Word) → Stands e (at_end ps w) → Stands r.outcome (at_end ps (suffix_all_alef_maqsura w)) × (r.row ≡ step_row alef_maqsura w)) → r.outcome.made ≡ e.made → r.outcome.changes ≡ e.changes
    → Leaves ps y (record { row = r.row; outcome = record { endings = e.made; env = r.outcome } })
unfolding maqsura_if_failed maqsura_row
maqsura-failed ps e r (done v) g f m c = absurd g
maqsura-failed ps e r (failed v) g f m c =
    let q = f v.text g.stands in
    (q.0, record { row = q.1; noted = noted_same e r.outcome (cut_numbers v.cuts) m c g.noted; number = how_many ps e v g })

-- ---- item 4
pub passed_of : (ps : List ℕ) (e : Env) (f : Fronting) → Fronts ps e f → Passed ps e f
passed_of ps e f h = record { state = h.state; placed = h.placed }

pub third_passed : (ps : List ℕ) (t : Result Env Env) (y : Try Fronting) → GivesThird ps t y → GivesPassed ps t y
third_passed ps (Ok e) (done a) h = h
third_passed ps (Ok e) (failed a) h = absurd h
third_passed ps (Err e) (done a) h = absurd h
third_passed ps (Err e) (failed a) h = passed_of ps e a h

pub verb_steps_is : (w : Fronting) → apply prefix_step4_verb (after (apply prefix_step3_verb w)) ≡ verb_steps w
unfolding verb_steps attempt ◌then_try◌
verb_steps_is w = refl

pub prefix_step3_is : (k : Kind) (w : Fronting) → if_failed (if_failed (apply prefix_step3a_noun w) (apply prefix_step3b_noun)) (if_open k verb_steps) ≡ prefix_step3 k w
unfolding prefix_step3
prefix_step3_is k w = sym (first_from_lem (apply prefix_step3a_noun) (apply prefix_step3b_noun ∷ if_open k verb_steps ∷ []) w)

pub prefix_steps_is : (k : Kind) (w : Fronting) → prefix_step3 k (after (apply prefix_step2 (after (apply prefix_step1 w)))) ≡ prefix_steps k w
unfolding prefix_steps prefix_step3 verb_steps attempt ◌then_try◌
prefix_steps_is k w = refl
