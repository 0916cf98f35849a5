-- How a line that is no word is answered.
use Rattle.std.specs.Prelude.{ℕ, ◌+◌, List, [], ◌∷◌, Result, Ok, Err}
use Rattle.stemmer.specs.declared.outcome.BadWord.{BadWord}
use Rattle.stemmer.specs.declared.outcome.BadWord.TheVariants.{TooLong, NotWellFormed}

abbrev pub question_mark : ℕ
question_mark = 0x3F

abbrev pub zero_digit : ℕ
zero_digit = 0x30

-- `?` and a code in decimal
abbrev pub refusal : ℕ → List ℕ
refusal code = question_mark ∷ (zero_digit + code) ∷ []

-- what answers a line after document 01's first two checks: `?1` where it has more than 255 bytes, `?2` where it is not well-formed UTF-8, and else its text
abbrev pub text_after : Result (Unit {0}) BadWord → List ℕ → List ℕ
text_after (Err TooLong) text = refusal 1
text_after (Err NotWellFormed) text = refusal 2
text_after (Ok accepted) text = text
