-- The answers of the entries as C has them.
use Rattle.std.specs.Prelude.{ℕ, Bool, true, false, Result, Ok, Err}
use Rattle.arabic.specs.declared.kind.Kind.{Kind}
use Rattle.stemmer.specs.declared.outcome.Stem.{Stem}
use Rattle.stemmer.specs.declared.outcome.StemPlaces.{StemPlaces}
use Rattle.stemmer.specs.declared.outcome.BadWord.{BadWord}
use Rattle.stemmer.specs.declared.outcome.Refusal.{Refusal}
use Rattle.stemmer.specs.Entries.{Answer as Given, refusal_code, code_of, count_of, endings_of, kind_code, kind_or_open, without_endings}
use Rattle.arabic_stemmer.specs.declared.Answer.{Answer}
use Rattle.arabic_stemmer.specs.declared.StemAnswer.{StemAnswer}
use Rattle.arabic_stemmer.specs.declared.PlacesAnswer.{PlacesAnswer}
use Rattle.arabic_stemmer.specs.declared.KindAnswer.{KindAnswer}

-- code and count
abbrev pub told : Given → Answer
told a = record { code = code_of a; count = count_of a }

-- with the number of endings
abbrev pub told_stem : Result Stem Refusal → StemAnswer
told_stem s = record { code = code_of s; endings = endings_of s; count = count_of (without_endings s) }

-- and with the number of the stem's letters, 0 with a refusal
abbrev pub told_places : Result StemPlaces Refusal → PlacesAnswer
told_places (Ok s) = record { code = 0; endings = s.endings; count = s.count; letters = s.letters }
told_places (Err e) = record { code = refusal_code e; endings = 0; count = 0; letters = 0 }

-- 0 for open, 1 for defined
abbrev pub number : Bool → ℕ
number false = 0
number true = 1

abbrev pub told_kind : Result Kind BadWord → KindAnswer
told_kind a = record { code = kind_code a; kind = number (kind_or_open a).defined }
