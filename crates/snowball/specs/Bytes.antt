-- What `create` and `replace_s` do to an environment's bytes and numbers.
use Rattle.std.specs.Prelude.{ℕ, ◌+◌, ◌-◌, ◌<◌, ◌≡◌, List, length, take, drop, get_or}
use Rattle.snowball.specs.Cut.{replaced, moved}
use Rattle.snowball.specs.Stands.{SameMarks}
use Rattle.snowball.specs.declared.env.Env.{Env}

-- the bytes of e's text
abbrev pub bytes : Env → List ℕ
bytes e = take e.limit e.current

-- r is a new environment: the word's bytes, each with its own place, with the cursor in front, the whole word from bra to ket, and no change made
pub record Created (word : List ℕ) (r : Env) : Type 0 where
  pub bytes : bytes r ≡ word
  pub places : (k : ℕ) → k < length word → get_or r.places k 0 ≡ k
  pub limit : r.limit ≡ length word
  pub cursor : r.cursor ≡ 0
  pub limit_backward : r.limit_backward ≡ 0
  pub bra : r.bra ≡ 0
  pub ket : r.ket ≡ length word
  pub made : r.made ≡ 0

-- r is e with the bytes between two places replaced by s
pub record Replaced (e : Env) (from to : ℕ) (s : List ℕ) (r : Env) : Type 0 where
  pub bytes : bytes r ≡ replaced (bytes e) from to s
  -- the places before them stay, and behind these stand those of the last bytes that s replaces, with all that follow
  pub places_before : take from r.places ≡ take from e.places
  pub places_behind : drop from (take r.limit r.places) ≡ drop (to - length s) (take e.limit e.places)
  pub limit : r.limit ≡ e.limit - (to - from) + length s
  pub cursor : r.cursor ≡ moved e.cursor from to (length s)
  pub limit_backward : r.limit_backward ≡ e.limit_backward
  pub same : SameMarks e r
