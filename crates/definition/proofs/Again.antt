-- The verb's Step1 is repeated until it takes no row: the number of letters is bound enough, and a larger one changes nothing. Assumes nothing.
use mathlib.Core.Path.{◌≡◌, refl, sym, ap, ◌∙◌}
use mathlib.Core.Bool.{true, false, false≢true}
use mathlib.Core.Option.{Option, none, some}
use Prim.Native.Nat.{ℕ, zero, suc, ◌+◌, ◌-◌, ◌≤◌, ◌<◌}
use native.Mathlib.Omega.{arith}
use lib.ListN.{length, take, length-append}
use lib.Seq.{length-take-le}
use Rattle.definition.specs.Words.{Word, ends_with}
use Rattle.definition.specs.Search.{row_at, taken}
use Rattle.definition.specs.Tries.{done, after, is_done, while_done, again}
use Rattle.definition.specs.Endings.{SuffixStep, suffix, Cutting, ending, cut_off, cut_by, cut}
use Rattle.definition.specs.Facts.{Idle}
use Rattle.definition.proofs.Match.{ends_split}
use Rattle.definition.proofs.Found.{taken_some}
use Rattle.definition.proofs.Cutting.{row_some}

abbrev search : SuffixStep → Cutting → Option ℕ
search s v = taken (ends_with v.text) (suffix s) (length v.text)

pub shorter : (s : SuffixStep) (v : Cutting) (r : ℕ) → taken (ends_with v.text) (suffix s) (length v.text) ≡ some r
    → length (cut_off v (record { step = s; row = r })).text < length v.text
unfolding cut_off ending
shorter s v r q =
    let tk = taken_some (ends_with v.text) (suffix s) (length v.text) r q in
    let key : Word = (row_at (suffix s).table r).letters in
    let t : Word = take (length v.text - length key) v.text in
    let l : length v.text ≡ length t + length key = ap length (ends_split v.text key tk.matches) ∙ length-append t key in
    let one = row_some s r tk.inside in
    omega arith

idle_empty : (s : SuffixStep) (v : Cutting) → length v.text ≤ 0 → (o : Option ℕ) → search s v ≡ o → o ≡ none
idle_empty s v h none q = refl
idle_empty s v h (some r) q = let l = shorter s v r q in absurd (omega arith)

-- it ends where the step takes no row
pub again-ends : (s : SuffixStep) (n : ℕ) (v : Cutting) → length v.text ≤ n → (x : Cutting) × (again n (cut s) v ≡ done x) × Idle s x
unfolding again cut
again-ends s zero v h = (v, refl, idle_empty s v h (search s v) refl)
again-ends s (suc n) v h = go (again-ends s n) (search s v) refl
  where
    go : ((u : Cutting) → length u.text ≤ n → (x : Cutting) × (again n (cut s) u ≡ done x) × Idle s x) → (o : Option ℕ) → search s v ≡ o
        → (x : Cutting) × (while_done (cut_by s v o) (again n (cut s)) ≡ done x) × Idle s x
    go f none q = (v, refl, q)
    go f (some r) q = f (cut_off v (record { step = s; row = r })) (let l = shorter s v r q in omega arith)

again_none : (s : SuffixStep) (n : ℕ) (v : Cutting) → length v.text ≤ 0 → again n (cut s) v ≡ done v
unfolding again cut
again_none s zero v h = refl
again_none s (suc n) v h = ap (λ (o : Option ℕ). while_done (cut_by s v o) (again n (cut s))) (idle_empty s v h (search s v) refl)

again_bound : (s : SuffixStep) (n m : ℕ) (v : Cutting) → length v.text ≤ n → length v.text ≤ m → again n (cut s) v ≡ again m (cut s) v
unfolding again cut
again_bound s zero m v h g = sym (again_none s m v h)
again_bound s (suc n) zero v h g = again_none s (suc n) v g
again_bound s (suc n) (suc m) v h g = go (again_bound s n m) (search s v) refl
  where
    go : ((u : Cutting) → length u.text ≤ n → length u.text ≤ m → again n (cut s) u ≡ again m (cut s) u) → (o : Option ℕ) → search s v ≡ o
        → while_done (cut_by s v o) (again n (cut s)) ≡ while_done (cut_by s v o) (again m (cut s))
    go f none q = refl
    go f (some r) q = let l = shorter s v r q in f (cut_off v (record { step = s; row = r })) (omega arith) (omega arith)

-- a turn of a loop that repeats the step, and its end
pub again_turn : (s : SuffixStep) (n : ℕ) (v : Cutting) → length v.text ≤ n → is_done (cut s v) ≡ true → again n (cut s) v ≡ again n (cut s) (after (cut s v))
unfolding again cut
again_turn s zero v h d = absurd (false≢true (ap (λ (o : Option ℕ). is_done (cut_by s v o)) (sym (idle_empty s v h (search s v) refl)) ∙ d))
again_turn s (suc n) v h d = go (search s v) refl d
  where
    go : (o : Option ℕ) → search s v ≡ o → is_done (cut_by s v o) ≡ true → while_done (cut_by s v o) (again n (cut s)) ≡ again (suc n) (cut s) (after (cut_by s v o))
    go none q t = absurd (false≢true t)
    go (some r) q t = let l = shorter s v r q in again_bound s n (suc n) (cut_off v (record { step = s; row = r })) (omega arith) (omega arith)

pub again_stop : (s : SuffixStep) (n : ℕ) (v : Cutting) → is_done (cut s v) ≡ false → again n (cut s) v ≡ done v
unfolding again cut
again_stop s zero v d = refl
again_stop s (suc n) v d = go (search s v) d
  where
    go : (o : Option ℕ) → is_done (cut_by s v o) ≡ false → while_done (cut_by s v o) (again n (cut s)) ≡ done v
    go none t = refl
    go (some r) t = absurd (false≢true (sym t))

-- what a cut leaves: fewer letters of the text where it succeeds, all where it fails
pub cut-takes : (s : SuffixStep) (v : Cutting) → is_done (cut s v) ≡ true → (k : ℕ) × (k < length v.text) × ((after (cut s v)).text ≡ take k v.text)
unfolding cut cut_off
cut-takes s v d = go (search s v) refl d
  where
    go : (o : Option ℕ) → search s v ≡ o → is_done (cut_by s v o) ≡ true → (k : ℕ) × (k < length v.text) × ((after (cut_by s v o)).text ≡ take k v.text)
    go none q t = absurd (false≢true t)
    go (some r) q t =
        let m : ℕ = length v.text - length (ending (record { step = s; row = r })) in
        (m, omega (arith, shorter s v r q, length-take-le m v.text (omega arith)), refl)

pub cut_fails : (s : SuffixStep) (v : Cutting) → is_done (cut s v) ≡ false → after (cut s v) ≡ v
unfolding cut
cut_fails s v d = go (search s v) d
  where
    go : (o : Option ℕ) → is_done (cut_by s v o) ≡ false → after (cut_by s v o) ≡ v
    go none t = refl
    go (some r) t = absurd (false≢true (sym t))
