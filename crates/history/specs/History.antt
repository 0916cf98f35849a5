-- The history of a word: every change of its letters, in the order made, each with the number of letters left.
use Rattle.std.specs.Prelude.{ℕ, ◌+◌, ◌-◌, Bool, List, [], ◌∷◌, ◌++◌, map, reverse, eqb, ltb, length, take, drop, get_or}
use Rattle.definition.specs.Words.{Word, pick, begins_with}
use Rattle.definition.specs.Search.{longest}
use Rattle.definition.specs.Tries.{Try, done, failed}
use Rattle.definition.specs.Kind.{kind}
use Rattle.definition.specs.Normal.{normalise}
use Rattle.definition.specs.Endings.{Cut, Cutting, endings}
use Rattle.definition.specs.Fronts.{Applied}
use Rattle.definition.specs.Fronts.{text as front_text}
use Rattle.definition.specs.Stem.{fronting, chain, applied}
use Rattle.definition.specs.Floating.{without_marks}
use Rattle.history.specs.Steps.{Step, floating_mark, normalize_pre, alef_maqsura, normalize_post_last, normalize_post_other, ending, front, table_of, Deed, by, row_of, put}

-- ---- playing a deed on the letters

-- the word in two parts, with the cursor between them; a front's row stands behind the cursor, and what it puts goes before the cursor
pub record Letters : Type 0 where
  pub passed : Word
  pub rest : Word

abbrev pub whole : Letters → Word
whole p = p.passed ++ p.rest

abbrev pub start : Word → Letters
start w = record { passed = []; rest = w }

-- the first letter c of the word gives way to new
unfoldable pub first_by : ℕ → Word → Word → Word
first_by c new [] = []
first_by c new (d ∷ w) = pick (eqb d c) (new ++ w) (d ∷ first_by c new w)

-- as many last letters as the row has give way to new
unfoldable pub last_by : Word → Word → Word → Word
last_by row new w = take (length w - length row) w ++ new

abbrev pub at_cursor : Word → Word → Letters → Letters
at_cursor row new p = record { passed = p.passed ++ new; rest = drop (length row) p.rest }

-- A floating mark, a key of A_0 and a letter that finishing changes is the first such letter of the word; an ending, the last 0649 and the last letter stand at the end.
unfoldable pub play_by : Step → Word → Word → Letters → Letters
play_by floating_mark row new p = start (first_by (get_or row 0 0) new (whole p))
play_by normalize_pre row new p = start (first_by (get_or row 0 0) new (whole p))
play_by normalize_post_other row new p = start (first_by (get_or row 0 0) new (whole p))
play_by (ending s) row new p = start (last_by row new (whole p))
play_by alef_maqsura row new p = start (last_by row new (whole p))
play_by normalize_post_last row new p = start (last_by row new (whole p))
play_by (front s) row new p = at_cursor row new p

unfoldable pub play : Deed → Letters → Letters
play d p = play_by d.step (row_of d) (put d) p

unfoldable pub play_all : List Deed → Letters → Letters
play_all [] p = p
play_all (d ∷ ds) p = play_all ds (play d p)

-- ---- the deeds of a word

-- the row of a letter in a step's table; the table's number of rows where it has none
unfoldable pub row_for : Step → ℕ → ℕ
row_for s c = longest (begins_with (c ∷ [])) (table_of s)

unfoldable pub is_key : Step → ℕ → Bool
is_key s c = ltb (row_for s c) (length (table_of s))

-- one deed for each letter that is a key, in word order
unfoldable pub keys_in : Step → Word → List Deed
keys_in s [] = []
keys_in s (c ∷ w) = pick (is_key s c) (by s (row_for s c) ∷ keys_in s w) (keys_in s w)

-- the last letter, and the letters before it
unfoldable pub last_of : Word → Word
last_of [] = []
last_of (c ∷ []) = c ∷ []
last_of (c ∷ d ∷ w) = last_of (d ∷ w)

unfoldable pub but_last : Word → Word
but_last [] = []
but_last (c ∷ []) = []
but_last (c ∷ d ∷ w) = c ∷ but_last (d ∷ w)

abbrev pub cut_deed : Cut → Deed
cut_deed c = by (ending c.step) c.row

abbrev pub front_deed : Applied → Deed
front_deed m = by (front m.step) m.row

unfoldable pub maqsura_deeds : Try Cutting → List Deed
maqsura_deeds (done v) = []
maqsura_deeds (failed v) = keys_in alef_maqsura (last_of v.text)

-- what item 5 changes: the last letter first
unfoldable pub post_deeds : Word → List Deed
post_deeds w = keys_in normalize_post_last (last_of w) ++ keys_in normalize_post_other (but_last w)

-- items 2 to 5, of a word with no floating mark. A cut stays where the alternative that made it fails behind it, so the chain has it too.
unfoldable pub stem_deeds : Word → List Deed
stem_deeds w =
    keys_in normalize_pre w
    ++ (map cut_deed (chain w)
    ++ (maqsura_deeds (endings (kind w) (normalise w))
    ++ (map front_deed (reverse (applied w))
    ++ post_deeds (front_text (fronting (kind w) (normalise w))))))

-- of a word as it is typed: its floating marks go before all else
unfoldable pub deeds : Word → List Deed
deeds w = keys_in floating_mark w ++ without_marks stem_deeds w

-- ---- the history: each deed with the number of letters that the word has once it is played

pub record Change : Type 0 where
  pub deed : Deed
  pub left : ℕ

unfoldable pub told : Letters → List Deed → List Change
told p [] = []
told p (d ∷ ds) = record { deed = d; left = length (whole (play d p)) } ∷ told (play d p) ds

unfoldable pub history : Word → List Change
history w = told (start w) (deeds w)

-- ---- the same numbers by counting: a deed takes the letters of its row and puts in what replaces them
unfoldable pub counted : ℕ → Deed → ℕ
counted n d = n - length (row_of d) + length (put d)

unfoldable pub numbered : ℕ → List Deed → List Change
numbered n [] = []
numbered n (d ∷ ds) = record { deed = d; left = counted n d } ∷ numbered (counted n d) ds
