-- What is said of histories: rows that are listed and stand in the word, and the endings and fronts among the changes.
use Rattle.std.specs.Prelude.{◌≡◌, ℕ, ◌^◌, ◌<◌, List, [], ◌∷◌, ◌++◌, length, flat_map}
use Rattle.definition.specs.Words.{Word}
use Rattle.definition.specs.Endings.{Cut}
use Rattle.definition.specs.Fronts.{Applied, at}
use Rattle.history.specs.Steps.{Step, floating_mark, normalize_pre, alef_maqsura, normalize_post_last, normalize_post_other, ending, front, table_of, Deed, row_of, put}
use Rattle.history.specs.History.{Letters, whole, play, Change}

-- the row is one of its step's table
abbrev pub Listed : Deed → Type 0
Listed d = d.row < length (table_of d.step)

-- a change whose line can be read back: its row is listed, and its number is one that `decimal` writes whole
abbrev pub Readable : Change → Type 0
Readable c = Listed c.deed × (c.left < 10 ^ 64)

-- the deed's row is listed and stands in the word w, and in x what the deed puts stands in its place
pub record Replaces (d : Deed) (w x : Word) : Type 0 where
  pub listed : Listed d
  pub before : Word
  pub behind : Word
  pub had : w ≡ before ++ (row_of d ++ behind)
  pub has : x ≡ before ++ (put d ++ behind)

-- so for each deed of a list, in the word that the deeds before it leave
unfoldable pub InPlace : Letters → List Deed → Type 0
InPlace p [] = Unit {0}
InPlace p (d ∷ ds) = Replaces d (whole p) (whole (play d p)) × InPlace (play d p) ds

-- ---- the endings and the fronts among deeds, in their order

-- a step and its row as an ending, if it is one
abbrev pub as_cut : Step → ℕ → List Cut
as_cut (ending s) r = record { step = s; row = r } ∷ []
as_cut (front s) r = []
as_cut floating_mark r = []
as_cut normalize_pre r = []
as_cut alef_maqsura r = []
as_cut normalize_post_last r = []
as_cut normalize_post_other r = []

abbrev pub cuts_of : List Deed → List Cut
cuts_of ds = flat_map (λ (d : Deed). as_cut d.step d.row) ds

-- likewise as a front
abbrev pub as_front : Step → ℕ → List Applied
as_front (front s) r = at s r ∷ []
as_front (ending s) r = []
as_front floating_mark r = []
as_front normalize_pre r = []
as_front alef_maqsura r = []
as_front normalize_post_last r = []
as_front normalize_post_other r = []

abbrev pub fronts_of : List Deed → List Applied
fronts_of ds = flat_map (λ (d : Deed). as_front d.step d.row) ds
