-- What the entries answer for the bytes of a word and an output of so many bytes, and what the output holds afterwards.
use Rattle.std.specs.Prelude.{ℕ, ◌≡◌, not, List, [], ◌∷◌, ◌++◌, ltb, length, take, drop, Result, Ok, Err}
use Rattle.std.specs.Borrow.{Bor}
use Rattle.std.proofs.Math.Option.{Option, none, some}
use Rattle.utf8.specs.Utf8.{encode, decode, well_formed}
use Rattle.definition.specs.Words.{Word, pick}
use Rattle.definition.specs.Kind.{Kind as WordKind, OPEN, kind}
use Rattle.definition.specs.Stem.{stem, chain}
use Rattle.definition.specs.Floating.{without_marks}
use Rattle.definition.specs.Demand3.{Demand3}
use Rattle.definition.specs.Number.{FewEndings}
use Rattle.snowball.specs.Chars.{started}
use Rattle.snowball.specs.Stands.{Stands}
use Rattle.snowball.specs.declared.env.Env.{Env}
use Rattle.arabic.specs.declared.kind.Kind.{Kind}
use Rattle.arabic.specs.Kinds.{flags}
use Rattle.stemmer.specs.declared.outcome.Stem.{Stem}
use Rattle.stemmer.specs.declared.outcome.BadWord.{BadWord}
use Rattle.stemmer.specs.declared.outcome.BadWord.TheVariants.{TooLong, NotWellFormed}
use Rattle.stemmer.specs.declared.outcome.Refusal.{Refusal}
use Rattle.stemmer.specs.declared.outcome.Refusal.TheVariants.{Bad, NoRoom}

-- the most bytes that a word may have
abbrev pub most_bytes : ℕ
most_bytes = 255

-- an output of so many bytes is long enough for every result of the entries in stemmer
abbrev pub enough_room : ℕ
enough_room = 340

-- ---- what is answered

-- how many bytes were written, or a refusal
abbrev pub Answer : Type 0
Answer = Result ℕ Refusal

-- document 01's code of a refusal
abbrev pub refusal_code : Refusal → ℕ
refusal_code (Bad TooLong) = 1
refusal_code (Bad NotWellFormed) = 2
refusal_code NoRoom = 3

-- and of an answer
abbrev pub code_of : {A : Type 0} → Result A Refusal → ℕ
code_of (Ok x) = 0
code_of (Err e) = refusal_code e

-- the number of bytes that were written: none on refusal
abbrev pub count_of : Answer → ℕ
count_of (Ok n) = n
count_of (Err e) = 0

-- the number of endings that were cut: none on refusal
abbrev pub endings_of : Result Stem Refusal → ℕ
endings_of (Ok s) = s.endings
endings_of (Err e) = 0

-- the code of the kind entry's answer, and the kind: open on refusal
abbrev pub kind_code : Result Kind BadWord → ℕ
kind_code (Ok k) = 0
kind_code (Err e) = refusal_code (Bad e)

abbrev pub kind_or_open : Result Kind BadWord → Kind
kind_or_open (Ok k) = k
kind_or_open (Err e) = flags OPEN

-- ---- a word's letters, and results in bytes

-- the letters of a word's bytes as typed, none where they are not well formed
abbrev pub or_none : Option Word → Word
or_none none = []
or_none (some w) = w

unfoldable pub letters : List ℕ → Word
letters word = or_none (decode word)

-- the bytes of what f makes of a word's letters: f is without_marks stem, without_marks normalise or finish
unfoldable pub bytes_of : (Word → Word) → List ℕ → List ℕ
bytes_of f word = encode (f (letters word))

-- ---- the checks

-- a result of n bytes, for an output of room bytes
unfoldable pub fitting : ℕ → ℕ → Answer
fitting n room = pick (ltb room n) (Err NoRoom) (Ok n)

-- document 01's first two checks, in their order, of the word as typed
unfoldable pub checked : List ℕ → Result (Unit {0}) BadWord
checked word = pick (ltb most_bytes (length word)) (Err TooLong) (pick (not (well_formed word)) (Err NotWellFormed) (Ok tt))

-- the answer after them, which for an accepted word is a
abbrev pub after_checks : Result (Unit {0}) BadWord → Answer → Answer
after_checks (Ok u) a = a
after_checks (Err e) a = Err (Bad e)

-- document 01's table: the first two checks, and the third
unfoldable pub answer : (Word → Word) → List ℕ → ℕ → Answer
answer f word room = after_checks (checked word) (fitting (length (bytes_of f word)) room)

-- ---- the work on a word

-- It takes each accepted word, and gives an environment that stands for what f makes of the word's letters. pre says which it takes, post what it gives for one.
pub record Works (pre : Bor (List ℕ) → Type 0) (post : Bor (List ℕ) → Env → Type 0) (f : Word → Word) : Type 0 where
  pub takes : (word : Bor (List ℕ)) → checked word.now ≡ Ok tt → pre word
  pub gives : (word : Bor (List ℕ)) (env : Env) → checked word.now ≡ Ok tt → post word env → (ps : List ℕ) × Stands env (started (f (letters word.now)) ps)

-- ---- the output

-- every byte of the output after an answer: the result in front and the old bytes behind, or the old bytes alone
unfoldable pub out_after : Answer → List ℕ → List ℕ → List ℕ
out_after (Ok n) result old = result ++ drop n old
out_after (Err e) result old = old

-- the result as a part of its own, empty on refusal
unfoldable pub part_after : Answer → List ℕ → List ℕ
part_after (Ok n) result = result
part_after (Err e) result = []

-- ---- the kind entry: the same first two checks

abbrev pub kind_after : Result (Unit {0}) BadWord → WordKind → Result Kind BadWord
kind_after (Ok u) k = Ok (flags k)
kind_after (Err e) k = Err e

unfoldable pub kind_answer : List ℕ → Result Kind BadWord
kind_answer word = kind_after (checked word) (without_marks kind (letters word))

-- ---- the stem entry: the bytes, code and count, and with them the number of endings, which is the length of the chain

abbrev pub stem_bytes : List ℕ → List ℕ
stem_bytes = bytes_of (without_marks stem)

abbrev pub stem_answer : List ℕ → ℕ → Answer
stem_answer = answer (without_marks stem)

abbrev pub with_endings : Answer → ℕ → Result Stem Refusal
with_endings (Ok n) m = Ok (record { count = n; endings = m })
with_endings (Err e) m = Err e

abbrev pub without_endings : Result Stem Refusal → Answer
without_endings (Ok s) = Ok s.count
without_endings (Err e) = Err e

abbrev pub stem_entry : List ℕ → ℕ → Result Stem Refusal
stem_entry word room = with_endings (stem_answer word room) (length (without_marks chain (letters word)))

-- demand 3, of the word without its marks and the letters that stand in front of the output after an answer with code 0
abbrev pub Demand3After : List ℕ → Answer → List ℕ → Type 0
Demand3After word a new = (w : Word) → decode word ≡ some w → code_of a ≡ 0 → (s : Word) × ((take (count_of a) new ≡ encode s) × without_marks Demand3 w s)

-- what the number of endings is at most, by the letters of the word without its marks
abbrev pub FewEndingsOf : List ℕ → ℕ → Type 0
FewEndingsOf word m = (w : Word) → decode word ≡ some w → without_marks FewEndings w m

-- the version's text: arabic_stemmer 1.0.0, as rust-stemmers 1.2.0
abbrev pub version : List ℕ
version = 0x61 ∷ 0x72 ∷ 0x61 ∷ 0x62 ∷ 0x69 ∷ 0x63 ∷ 0x5F ∷ 0x73 ∷ 0x74 ∷ 0x65 ∷ 0x6D ∷ 0x6D ∷ 0x65 ∷ 0x72 ∷ 0x20 ∷ 0x31 ∷ 0x2E ∷ 0x30 ∷ 0x2E ∷ 0x30 ∷ 0x2C ∷ 0x20 ∷ 0x61 ∷ 0x73 ∷ 0x20 ∷ 0x72 ∷ 0x75 ∷ 0x73 ∷ 0x74 ∷ 0x2D ∷ 0x73 ∷ 0x74 ∷ 0x65 ∷ 0x6D ∷ 0x6D ∷ 0x65 ∷ 0x72 ∷ 0x73 ∷ 0x20 ∷ 0x31 ∷ 0x2E ∷ 0x32 ∷ 0x2E ∷ 0x30 ∷ []
