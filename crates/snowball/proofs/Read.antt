-- How long a part of a text is, and what the keys of a table are. Assumes nothing.
use mathlib.Core.Path.{◌≡◌, refl, ap}
use mathlib.Core.List.{List, [], ◌∷◌}
use Prim.Native.Nat.{ℕ, zero, suc, ◌-◌, ◌≤◌, ◌<◌}
use native.Mathlib.Omega.{arith}
use lib.ListN.{length, take, drop, get_or, length-drop}
use lib.Seq.{length-take-le}
use Rattle.snowball.specs.Rows.{keys_by}
use Rattle.snowball.specs.Search.{between}

-- ---- the text
module _ (t : List ℕ) (from to : ℕ) (h : from ≤ to) (k : to ≤ length t) where
  pub between-length : length (between t from to) ≡ to - from
  unfolding between
  between-length = length-take-le (to - from) (drop from t) (let e : length (drop from t) ≡ length t - from = length-drop from t in omega arith)

-- ---- the keys of a table
module _ (read : List ℕ → List ℕ) where
  pub keys_by_length : (ws : List (List ℕ)) (ns : List ℕ) → length (keys_by read ws ns) ≡ length ws
  keys_by_length [] ns = refl
  keys_by_length (w ∷ ws) [] = ap suc (keys_by_length ws [])
  keys_by_length (w ∷ ws) (n ∷ ns) = ap suc (keys_by_length ws ns)

  pub keys_by_at : (ws : List (List ℕ)) (ns : List ℕ) (k : ℕ) → k < length ws → get_or (keys_by read ws ns) k [] ≡ read (take (get_or ns k 0) (get_or ws k []))
  keys_by_at [] ns k h = absurd (omega arith)
  keys_by_at (w ∷ ws) [] zero h = refl
  keys_by_at (w ∷ ws) [] (suc k) h = keys_by_at ws [] k (omega arith)
  keys_by_at (w ∷ ws) (n ∷ ns) zero h = refl
  keys_by_at (w ∷ ws) (n ∷ ns) (suc k) h = keys_by_at ws ns k (omega arith)
