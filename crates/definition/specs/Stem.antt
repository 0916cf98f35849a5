-- A word's way through items 1 to 5, and the words of demand 3.
use Rattle.std.specs.Prelude.{◌-◌, List, [], ◌∷◌, reverse, length, take, drop}
use Rattle.definition.specs.Words.{Word}
use Rattle.definition.specs.Tries.{after, all_of}
use Rattle.definition.specs.Kind.{Kind, OPEN, kind}
use Rattle.definition.specs.Normal.{normalise}
use Rattle.definition.specs.Endings.{Cut, Cutting, joined, endings, endings_leave}
use Rattle.definition.specs.Fronts.{Applied, Fronting, text, fronts}
use Rattle.definition.specs.Finish.{finish}

-- For a normalised word n of kind k: what verb and noun cut, what item 4 makes of the letters that item 3 leaves, and the stem.
unfoldable pub cutting : Kind → Word → Cutting
cutting k n = after (endings k n)

unfoldable pub fronting : Kind → Word → Fronting
fronting k n = fronts k (endings_leave k n)

unfoldable pub stem_of : Kind → Word → Word
stem_of k n = finish (text (fronting k n))

-- ---- the way

-- a word on its way, with the kind that it has so far
pub record Under : Type 0 where
  pub is : Kind
  pub word : Word

-- item 1 finds the kind
abbrev pub kind_found : Under → Under
kind_found u = record { is = kind u.word; word = u.word }

-- the items behind it change the word
abbrev pub changed : (Kind → Word → Word) → Under → Under
changed f u = record { is = u.is; word = f u.is u.word }

-- kind check, normalising, endings, fronts, finishing, as a function of the last three
abbrev pub items_in_turn : (Kind → Word → Word) → (Kind → Word → Word) → (Word → Word) → List (Under → Under)
items_in_turn third fourth fifth = kind_found ∷ changed (λ (k : Kind). normalise) ∷ changed third ∷ changed fourth ∷ changed (λ (k : Kind). fifth) ∷ []

-- every word is open before item 1, which asks for no kind
abbrev pub unchecked : Word → Under
unchecked w = record { is = OPEN; word = w }

-- the five items in turn, which is stem_of (kind w) (normalise w)
unfoldable pub stem : Word → Word
stem w = (all_of (items_in_turn endings_leave (λ (k : Kind) (n : Word). text (fronts k n)) finish) (unchecked w)).word

-- ---- the words of demand 3

-- the rows that item 3 cuts, the last one cut foremost
unfoldable pub cuts : Word → List Cut
cuts w = (cutting (kind w) (normalise w)).cuts

-- the chain: these rows in the order cut
unfoldable pub chain : Word → List Cut
chain w = reverse (cuts w)

-- the back: these rows joined, the last one cut foremost
unfoldable pub back : Word → Word
back w = joined (cuts w)

-- the steps that item 4 applies, the last one foremost
unfoldable pub applied : Word → List Applied
applied w = (fronting (kind w) (normalise w)).applied

-- the front: the letters that item 4 takes, and the head letter
unfoldable pub front : Word → Word
front w = (fronting (kind w) (normalise w)).front

unfoldable pub head_letter : Word → Word
head_letter w = (fronting (kind w) (normalise w)).head_letter

-- a normalised word n without the endings cs
unfoldable pub without : Word → List Cut → Word
without n cs = take (length n - length (joined cs)) n

-- the run: what lies between front and back
unfoldable pub run : Word → Word
run w = drop (length (front w)) (without (normalise w) (cuts w))
