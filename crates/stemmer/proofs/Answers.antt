-- The answer of an entry, check by check, and what an answer says of the result. Assumes nothing.
use mathlib.Core.Path.{◌≡◌, refl, sym, ap, ◌∙◌, subst}
use mathlib.Core.Bool.{Bool, true, false, not}
use mathlib.Core.List.{List}
use mathlib.Core.Option.{some}
use Prim.Native.Nat.{ℕ, ◌≤◌, ◌<◌}
use native.Mathlib.Omega.{arith}
use lib.Dec.{ltb}
use lib.ListN.{length, take, drop}
use lib.Seq.{take_at}
use borrow.Author.Tests.{lt-ltb, le-ltb, ltb-true, ltb-false}
use Rattle.std.specs.Prelude.{Result, Ok, Err, MatchResult, IsOkAnd, IsErrAnd}
use Rattle.std.proofs.lemmas.Result.{err_from_is_err_and}
use Rattle.utf8.specs.Utf8.{Scalars, encode, decode, well_formed}
use Rattle.utf8.proofs.Main.{main_decodes, main_text}
use Rattle.definition.specs.Words.{Word, pick}
use Rattle.definition.specs.Kind.{kind}
use Rattle.definition.specs.Stem.{stem, chain}
use Rattle.definition.specs.Floating.{unmarked, without_marks}
use Rattle.definition.specs.Number.{FewEndings}
use Rattle.definition.proofs.Main.{main_unmarked_demand3, main_number}
use Rattle.definition.proofs.Number.{none_few}
use Rattle.definition.proofs.Match.{by}
use Rattle.snowball.specs.Chars.{started}
use Rattle.snowball.specs.Stands.{Stands}
use Rattle.snowball.specs.declared.env.Env.{Env}
use Rattle.stemmer.specs.declared.outcome.Stem.{Stem}
use Rattle.stemmer.specs.declared.outcome.BadWord.{BadWord}
use Rattle.stemmer.specs.declared.outcome.BadWord.TheVariants.{TooLong, NotWellFormed}
use Rattle.stemmer.specs.declared.outcome.Refusal.{Refusal}
use Rattle.stemmer.specs.declared.outcome.Refusal.TheVariants.{Bad, NoRoom}
use Rattle.stemmer.specs.Entries.{Answer, refusal_code, code_of, count_of, endings_of, most_bytes, enough_room, letters, bytes_of, checked, after_checks, fitting, answer, out_after, part_after, with_endings, without_endings, kind_after, kind_answer, Demand3After, FewEndingsOf, stem_bytes, stem_answer, stem_entry}

-- ---- checking: a word that is too long, one that is not well formed, and one that is accepted
module _ (word : List ℕ) where
  pub too_long : most_bytes < length word → checked word ≡ Err TooLong
  unfolding checked
  too_long h = rw (lt-ltb most_bytes (length word) h) refl

  pub malformed : length word ≤ most_bytes → well_formed word ≡ false → checked word ≡ Err NotWellFormed
  unfolding checked
  malformed h e = rw (le-ltb most_bytes (length word) h, e) refl

  pub accepted : length word ≤ most_bytes → well_formed word ≡ true → checked word ≡ Ok tt
  unfolding checked
  accepted h e = rw (le-ltb most_bytes (length word) h, e) refl

-- ---- a well-formed word's letters, and an accepted word's length
pub letters_are : (word cs : List ℕ) → decode word ≡ some cs → letters word ≡ cs
unfolding letters
letters_are word cs e = rw e refl

pub letters-encoded : (cs : Word) → Scalars cs → letters (encode cs) ≡ cs
letters-encoded cs s = letters_are (encode cs) cs (main_decodes cs s)

module _ (word : List ℕ) (w : well_formed word ≡ true) where
  letters_of : (main_text word w).0 ≡ letters word
  letters_of = let m = main_text word w in sym (ap letters m.2 ∙ letters-encoded m.0 m.1)

  pub formed-scalars : Scalars (letters word)
  formed-scalars = subst Scalars letters_of (main_text word w).1

  pub formed_spelling : word ≡ encode (letters word)
  formed_spelling = (main_text word w).2 ∙ ap encode letters_of

both-passed : (long formed : Bool) → ◌≡◌ {A = Result (Unit {0}) BadWord} (pick long (Err TooLong) (pick (not formed) (Err NotWellFormed) (Ok tt))) (Ok tt) → (long ≡ false) × (formed ≡ true)
both-passed true formed e = cc
both-passed false true e = (refl, refl)
both-passed false false e = cc

module _ (word : List ℕ) (e : checked word ≡ Ok tt) where
  passed : (ltb most_bytes (length word) ≡ false) × (well_formed word ≡ true)
  unfolding checked
  passed = both-passed (ltb most_bytes (length word)) (well_formed word) e

  pub short : length word ≤ most_bytes
  short = ltb-false most_bytes (length word) passed.0

  pub formed : well_formed word ≡ true
  formed = passed.1

  pub scalars : Scalars (letters word)
  scalars = formed-scalars word formed

  pub spelling : word ≡ encode (letters word)
  spelling = formed_spelling word formed

-- ---- code 3 says that the output is shorter than the result
pub no_room : (n room : ℕ) → n ≤ enough_room → code_of (fitting n room) ≡ 3 → room < enough_room
unfolding fitting
no_room n room h z = by (ltb room n)
    (λ t. omega (arith, ltb-true room n t))
    (λ t. let q : ◌≡◌ {A = ℕ} 3 0 = sym z ∙ ap (λ (b : Bool). code_of {A = ℕ} (pick b (Err NoRoom) (Ok n))) t in absurd (omega arith))

-- ---- the answer, by the outcome of the checks
pub after : (f : Word → Word) (word : List ℕ) (room : ℕ) (c : Result (Unit {0}) BadWord) → checked word ≡ c
    → answer f word room ≡ after_checks c (fitting (length (bytes_of f word)) room)
unfolding answer
after f word room c e = ap (λ (x : Result (Unit {0}) BadWord). after_checks x (fitting (length (bytes_of f word)) room)) e

-- two words that are accepted, and of which f makes the same
pub same_answer : (f : Word → Word) (u v : List ℕ) → checked u ≡ Ok tt → checked v ≡ Ok tt → bytes_of f u ≡ bytes_of f v → (room : ℕ) → answer f u room ≡ answer f v room
unfolding answer
same_answer f u v d e b room = λ i. after_checks ((d ∙ sym e) i) (fitting (length (b i)) room)

pub over_long : (f : Word → Word) (word : List ℕ) (room : ℕ) → most_bytes < length word → answer f word room ≡ Err (Bad TooLong)
over_long f word room h = after f word room (Err TooLong) (too_long word h)

-- a code is a refusal's or 0
pub bad_word : (e : BadWord) → refusal_code (Bad e) ≡ 3 → ⊥
bad_word TooLong z = omega arith
bad_word NotWellFormed z = omega arith

pub refused_code : (e : Refusal) → refusal_code e ≡ 0 → ⊥
refused_code (Bad TooLong) z = omega arith
refused_code (Bad NotWellFormed) z = omega arith
refused_code NoRoom z = omega arith

-- ---- the law of the entries: what is promised of the one that f belongs to, for each outcome of the checks
module _ (f : Word → Word) (word old : List ℕ) where
  abbrev pub Promised : Answer → List ℕ → Type 0
  Promised r new = record {
    value : r ≡ answer f word (length old);
    out_after : new ≡ out_after (answer f word (length old)) (bytes_of f word) old;
    out_len_bound : code_of r ≡ 3 → length old < enough_room;
  }

  out_by : (a : Answer) → a ≡ answer f word (length old) → out_after a (bytes_of f word) old ≡ out_after (answer f word (length old)) (bytes_of f word) old
  out_by a e = ap (λ (x : Answer). out_after x (bytes_of f word) old) e

  pub refused : (e : BadWord) → Err e ≡ checked word → (r : Answer) → IsErrAnd r (λ (x : Refusal). x ≡ Bad e) → Promised r old
  unfolding out_after
  refused e c r h =
      let p = err_from_is_err_and r h in
      let is : r ≡ Err (Bad e) = p.1 ∙ ap Err p.2 in
      let q : Err (Bad e) ≡ answer f word (length old) = sym (after f word (length old) (Err e) (sym c)) in
      record {
        value = is ∙ q;
        out_after = out_by (Err (Bad e)) q;
        out_len_bound = λ z. absurd (bad_word e (sym (ap (code_of {A = ℕ}) is) ∙ z));
      }

  -- the text of an environment that stands for what f makes of the word's letters, delivered
  pub delivered : Ok tt ≡ checked word → (v : Env) (ps : List ℕ) → Stands v (started (f (letters word)) ps) → (text : List ℕ) → text ≡ take v.limit v.current → (r : Answer) (new : List ℕ)
      → r ≡ fitting (length text) (length old) → new ≡ out_after r text old → Promised r new
  unfolding bytes_of
  delivered c v ps st text t r new a o =
      let b : text ≡ bytes_of f word = t ∙ st.bytes in
      let fits : r ≡ fitting (length (bytes_of f word)) (length old) = a ∙ ap (λ (bs : List ℕ). fitting (length bs) (length old)) b in
      let q : r ≡ answer f word (length old) = fits ∙ sym (after f word (length old) (Ok tt) (sym c)) in
      record {
        value = q;
        out_after = o ∙ ap (λ (bs : List ℕ). out_after r bs old) b ∙ out_by r q;
        out_len_bound = λ z. no_room (length (bytes_of f word)) (length old) (omega (arith, st.sized, st.within)) (sym (ap (code_of {A = ℕ}) fits) ∙ z);
      }

-- ---- what an Ok says
ok_of : (c : Result (Unit {0}) BadWord) (d : Bool) (m n : ℕ) → after_checks c (pick d (Err NoRoom) (Ok m)) ≡ Ok n → (d ≡ false) × (m ≡ n)
ok_of (Err e) d m n q = cc
ok_of (Ok u) true m n q = cc
ok_of (Ok u) false m n q = (refl, cc)

module _ (f : Word → Word) (word : List ℕ) (room n : ℕ) (e : answer f word room ≡ Ok n) where
  both-said : (ltb room (length (bytes_of f word)) ≡ false) × (length (bytes_of f word) ≡ n)
  unfolding answer fitting
  both-said = ok_of (checked word) (ltb room (length (bytes_of f word))) (length (bytes_of f word)) n e

  count_is : length (bytes_of f word) ≡ n
  count_is = both-said.1

  count_fits : n ≤ room
  count_fits = omega (arith, ltb-false room (length (bytes_of f word)) both-said.0, count_is)

pub done_count : (word : List ℕ) (room n : ℕ) → stem_answer word room ≡ Ok n → length (stem_bytes word) ≡ n
done_count = count_is (without_marks stem)

pub done-fits : (word : List ℕ) (room n : ℕ) → stem_answer word room ≡ Ok n → n ≤ room
done-fits = count_fits (without_marks stem)

-- ---- the output

-- the count's bytes of the output are the result
pub front : (f : Word → Word) (word old : List ℕ) (a : Answer) → a ≡ answer f word (length old) → code_of a ≡ 0
    → take (count_of a) (out_after a (bytes_of f word) old) ≡ bytes_of f word
unfolding out_after
front f word old (Ok n) e z = take_at (bytes_of f word) (drop n old) n (count_is f word (length old) n (sym e))
front f word old (Err x) e z = absurd (refused_code x z)

-- demand 3, from the other promises of the stem entry
pub owed : (word old new : List ℕ) (a : Answer) → Promised (without_marks stem) word old a new → Demand3After word a new
unfolding bytes_of
owed word old new a p = λ w d z. (
  without_marks stem w,
  (
    ap (take (count_of a)) (p.out_after ∙ sym (out_by (without_marks stem) word old a p.value)) ∙ front (without_marks stem) word old a p.value z
        ∙ ap (λ (x : Word). encode (without_marks stem x)) (letters_are word w d),
    main_unmarked_demand3 w,
  ),
)

-- ---- the number of endings
abbrev pub number : List ℕ → ℕ
number word = length (without_marks chain (letters word))

with_answer : (a : Answer) (m : ℕ) → without_endings (with_endings a m) ≡ a
with_answer (Ok n) m = refl
with_answer (Err e) m = refl

-- the number put beside the count, by a work of which P is known
pub put_beside : {P : ℕ → Stem → Type 0} (a : Answer) (m : ℕ) (r : Result Stem Refusal) → ((n : ℕ) (s : Stem) → P n s → s ≡ record { count = n; endings = m })
    → MatchResult a (λ n. IsOkAnd r (P n)) (λ e. r ≡ Err e) → r ≡ with_endings a m
put_beside (Ok n) m (Ok s) p h = ap Ok (p n s h)
put_beside (Ok n) m (Err e) p h = absurd h
put_beside (Err e) m r p h = h

pub entry_answer : (word : List ℕ) (room : ℕ) → without_endings (stem_entry word room) ≡ stem_answer word room
entry_answer word room = with_answer (stem_answer word room) (number word)

-- it matters with code 0 alone
pub with_same : (a : Answer) (m n : ℕ) → (code_of a ≡ 0 → m ≡ n) → with_endings a m ≡ with_endings a n
with_same (Ok k) m n e = ap (with_endings (Ok k)) (e refl)
with_same (Err e) m n q = refl

-- and a refusal's 0 is within every bound
with_few : (a : Answer) (m : ℕ) (w : Word) → FewEndings w m → FewEndings w (endings_of (with_endings a m))
with_few (Ok n) m w h = h
with_few (Err e) m w h = none_few w

with_code : (a : Answer) (m : ℕ) → code_of (with_endings a m) ≡ code_of a
with_code (Ok n) m = refl
with_code (Err e) m = refl

-- what the stem entry promises, from what is promised of code, count and output
module _ (word old : List ℕ) where
  abbrev pub StemPromised : Result Stem Refusal → List ℕ → Type 0
  StemPromised r new = record {
    value : r ≡ stem_entry word (length old);
    out_after : new ≡ out_after (stem_answer word (length old)) (stem_bytes word) old;
    demand3after : Demand3After word (without_endings r) new;
    few_endings_of : FewEndingsOf word (endings_of r);
    out_len_bound : code_of r ≡ 3 → length old < enough_room;
  }

  pub numbered : (a : Answer) (new : List ℕ) → Promised (without_marks stem) word old a new → (r : Result Stem Refusal) → r ≡ with_endings a (number word) → StemPromised r new
  numbered a new p r is =
      let same : r ≡ stem_entry word (length old) = is ∙ ap (λ (x : Answer). with_endings x (number word)) p.value in
      record {
        value = same;
        out_after = p.out_after;
        demand3after = subst (λ (x : Answer). Demand3After word x new) (sym (ap without_endings is ∙ with_answer a (number word))) (owed word old new a p);
        few_endings_of = λ w d. subst (λ (x : Result Stem Refusal). without_marks FewEndings w (endings_of x))
            (ap (λ (x : Word). with_endings (stem_answer word (length old)) (length (without_marks chain x))) (sym (letters_are word w d)) ∙ sym same)
            (with_few (stem_answer word (length old)) (length (without_marks chain w)) (unmarked w) (main_number (unmarked w)));
        out_len_bound = λ z. p.out_len_bound (sym (ap (code_of {A = Stem}) is ∙ with_code a (number word)) ∙ z);
      }

-- the part that is handed back: as many bytes of the output as the answer counts
module _ (f : Word → Word) (word old : List ℕ) where
  counted : (a : Answer) → a ≡ answer f word (length old) → count_of a ≤ length old
  counted (Ok n) e = count_fits f word (length old) n (sym e)
  counted (Err x) e = omega arith

  parted : (a : Answer) → a ≡ answer f word (length old) → take (count_of a) (out_after a (bytes_of f word) old) ≡ part_after a (bytes_of f word)
  unfolding out_after part_after
  parted (Ok n) e = front f word old (Ok n) e refl
  parted (Err x) e = refl

  pub count_within : count_of (answer f word (length old)) ≤ length old
  count_within = counted (answer f word (length old)) refl

  pub part_is : take (count_of (answer f word (length old))) (out_after (answer f word (length old)) (bytes_of f word) old) ≡ part_after (answer f word (length old)) (bytes_of f word)
  part_is = parted (answer f word (length old)) refl

-- ---- the kind
pub kind-after : (word : List ℕ) (c : Result (Unit {0}) BadWord) → checked word ≡ c → kind_after c (without_marks kind (letters word)) ≡ kind_answer word
unfolding kind_answer
kind-after word c e = sym (ap (λ (x : Result (Unit {0}) BadWord). kind_after x (without_marks kind (letters word))) e)
