-- No place and no pair of neighbours is missing in the table. Assumes nothing.
use mathlib.Core.Path.{◌≡◌, refl}
use mathlib.Core.List.{map}
use lib.ListN.{get_or}
use Rattle.order.specs.Order.{Place, way, ends, verbs, verb_turns, verb_sequel, noun_turns, nouns, step1b_turns, step1b_sequel, fronts, thirds, verb_fronts, finishing, nowhere, place_number}
use Rattle.order.specs.Settled.{settled, neighbours, places, pair_of}

pub places-all : (p : Place) → get_or places (place_number p) nowhere ≡ p
places-all way = refl
places-all ends = refl
places-all verbs = refl
places-all verb_turns = refl
places-all verb_sequel = refl
places-all noun_turns = refl
places-all nouns = refl
places-all step1b_turns = refl
places-all step1b_sequel = refl
places-all fronts = refl
places-all thirds = refl
places-all verb_fronts = refl
places-all finishing = refl
places-all nowhere = refl

pub settled-all : map pair_of settled ≡ neighbours places
unfolding settled
settled-all = refl
