-- What is printed of a refusal.
use Rattle.std.specs.Prelude.{ℕ, List, codes}
use Rattle.stemmer.specs.declared.outcome.BadWord.{BadWord}
use Rattle.stemmer.specs.declared.outcome.BadWord.TheVariants.{TooLong, NotWellFormed}
use Rattle.stemmer.specs.declared.outcome.Refusal.{Refusal}
use Rattle.stemmer.specs.declared.outcome.Refusal.TheVariants.{Bad, NoRoom}

abbrev pub word_text : BadWord → List ℕ
word_text TooLong = codes "the word has more than 255 bytes"
word_text NotWellFormed = codes "the word is not well-formed UTF-8"

abbrev pub refusal_text : Refusal → List ℕ
refusal_text (Bad e) = word_text e
refusal_text NoRoom = codes "what is lent for the result is too short"
