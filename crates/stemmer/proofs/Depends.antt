-- Two words of which an index keeps the same have the same stem. Assumes nothing.
use mathlib.Core.Path.{◌≡◌, refl, sym, ap, ◌∙◌}
use mathlib.Core.List.{List, [], ◌∷◌}
use Prim.Native.Nat.{ℕ, ◌≤◌}
use native.Mathlib.Omega.{arith}
use lib.ListN.{length, take}
use Rattle.std.specs.Prelude.{Result, Ok, Err}
use Rattle.utf8.specs.Utf8.{encode1, encode, first, filled, step, onto, run}
use Rattle.utf8.proofs.Main.{main_one}
use Rattle.definition.specs.Letters.{alef, jeem, lam, heh, waw}
use Rattle.definition.specs.Words.{Word}
use Rattle.definition.specs.Kind.{Kind, OPEN, DEFINED, kind}
use Rattle.definition.specs.Normal.{normalise}
use Rattle.definition.specs.Stem.{stem}
use Rattle.definition.specs.Floating.{floating_marks, floating, unmarked, without_marks}
use Rattle.definition.specs.Depends.{in_letters, in_forms, with_mark}
use Rattle.definition.proofs.Main.{main_unmarked_depends, main_kind_needed}
use Rattle.floating_marks.proofs.Sizes.{unmarked-size}
use Rattle.arabic.specs.Kinds.{flags, kind_of}
use Rattle.arabic.proofs.Main.{main_grows}
use Rattle.arabic.proofs.Checking.{kind-back}
use Rattle.stemmer.specs.declared.outcome.BadWord.{BadWord}
use Rattle.stemmer.specs.declared.outcome.BadWord.TheVariants.{TooLong, NotWellFormed}
use Rattle.stemmer.specs.declared.outcome.Refusal.TheVariants.{Bad}
use Rattle.stemmer.specs.Entries.{Answer, enough_room, code_of, count_of, kind_code, kind_or_open, letters, bytes_of, checked, answer, out_after, with_endings, kind_after, kind_answer, stem_bytes, stem_answer}
use Rattle.stemmer.specs.Blocks.{out_of, written}
use Rattle.stemmer.specs.Depends.{SameKept, SameStem, fifth, sixth, marked, OneWordTwoKinds}
use Rattle.stemmer.proofs.Answers.{short, scalars, spelling, after, same_answer, refused_code, refused, part_is, number, with_same}
use Rattle.stemmer.proofs.Blocks.{done, written-done, normalised, normalised-scalars}

-- ---- the kind entry's answer

-- its code tells how the checks came out
same_checks : (c d : Result (Unit {0}) BadWord) (k l : Kind) → kind_code (kind_after c k) ≡ kind_code (kind_after d l) → c ≡ d
same_checks (Ok u) (Ok v) k l e = refl
same_checks (Ok u) (Err TooLong) k l e = absurd (omega (arith, e))
same_checks (Ok u) (Err NotWellFormed) k l e = absurd (omega (arith, e))
same_checks (Err TooLong) (Ok v) k l e = absurd (omega (arith, e))
same_checks (Err NotWellFormed) (Ok v) k l e = absurd (omega (arith, e))
same_checks (Err TooLong) (Err TooLong) k l e = refl
same_checks (Err TooLong) (Err NotWellFormed) k l e = absurd (omega (arith, e))
same_checks (Err NotWellFormed) (Err TooLong) k l e = absurd (omega (arith, e))
same_checks (Err NotWellFormed) (Err NotWellFormed) k l e = refl

-- and of an accepted word its flag tells the kind
kind-told : (word : List ℕ) → checked word ≡ Ok tt → kind_of (kind_or_open (kind_answer word)).defined ≡ without_marks kind (letters word)
unfolding kind_answer
kind-told word e =
    ap (λ (c : Result (Unit {0}) BadWord). kind_of (kind_or_open (kind_after c (without_marks kind (letters word)))).defined) e ∙ kind-back (without_marks kind (letters word))

-- ---- the stem entries
module _ (u v : List ℕ) where
  -- equal answers and outputs hand back equal parts
  same-stem : ((room : ℕ) → stem_answer u room ≡ stem_answer v room) → ((room : ℕ) → code_of (stem_answer v room) ≡ 0 → number u ≡ number v)
      → ((old : List ℕ) → out_of (without_marks stem) u old ≡ out_of (without_marks stem) v old) → SameStem u v
  same-stem a n o = record {
    answers = λ room. ap (λ (x : Answer). with_endings x (number u)) (a room) ∙ with_same (stem_answer v room) (number u) (number v) (n room);
    outputs = o;
    parts = λ old. sym (part_is (without_marks stem) u old) ∙ (λ i. take (count_of (a (length old) i)) (o old i)) ∙ part_is (without_marks stem) v old;
  }

  -- both refused, or both accepted with the same stem and as many endings
  pub by_checks : (c : Result (Unit {0}) BadWord) → checked u ≡ c → checked v ≡ c → (c ≡ Ok tt → (stem_bytes u ≡ stem_bytes v) × (number u ≡ number v)) → SameStem u v
  by_checks (Err x) d e f = same-stem
      (λ room. after (without_marks stem) u room (Err x) d ∙ sym (after (without_marks stem) v room (Err x) e))
      (λ room z. absurd (refused_code (Bad x) (sym (ap (code_of {A = ℕ}) (after (without_marks stem) v room (Err x) e)) ∙ z)))
      (λ old. sym (refused (without_marks stem) u old x (sym d) (Err (Bad x)) refl).out_after ∙ (refused (without_marks stem) v old x (sym e) (Err (Bad x)) refl).out_after)
  by_checks (Ok y) d e f = same-stem answers (λ room z. (f refl).1) (λ old. (λ i. out_after (answers (length old) i) ((f refl).0 i) old))
    where
      answers : (room : ℕ) → stem_answer u room ≡ stem_answer v room
      answers = same_answer (without_marks stem) u v d e (f refl).0

-- ---- what is kept

-- normalise writes all that it makes of an accepted word
all-written : (word old : List ℕ) → checked word ≡ Ok tt → enough_room ≤ length old → written normalised word old ≡ bytes_of normalised word
unfolding bytes_of
all-written word old e h = written-done normalised word e old (omega (arith, main_grows (unmarked (letters word)), unmarked-size (letters word), ap length (spelling word e), short word e))

-- and its bytes tell its letters
same-letters : (u v : List ℕ) → checked u ≡ Ok tt → checked v ≡ Ok tt → bytes_of normalised u ≡ bytes_of normalised v → normalised (letters u) ≡ normalised (letters v)
unfolding bytes_of
same-letters u v d e q =
    main_one (normalised (letters u)) (normalised (letters v)) (normalised-scalars (letters u) (scalars u d)) (normalised-scalars (letters v) (scalars v e)) q

pub kept-stem : (u v old old' : List ℕ) → SameKept u v old old' → SameStem u v
unfolding bytes_of kind_answer
kept-stem u v old old' s = by_checks u v (checked v) both refl (λ e.
    let d : checked u ≡ Ok tt = both ∙ e in
    let q : bytes_of normalised u ≡ bytes_of normalised v = sym (all-written u old d s.room) ∙ s.bytes ∙ all-written v old' e s.room' in
    let k : without_marks kind (letters u) ≡ without_marks kind (letters v) = sym (kind-told u d) ∙ ap kind_of s.kinds ∙ kind-told v e in
    let w = main_unmarked_depends (letters u) (letters v) (same-letters u v d e q) k in
    (ap encode w.stems, ap length w.chains))
  where
    both : checked u ≡ checked v
    both = same_checks (checked u) (checked v) (without_marks kind (letters u)) (without_marks kind (letters v)) s.codes

-- equal answers and outputs of normalise, and equal answers of kind, are enough
pub same_kept : (u v old : List ℕ) → enough_room ≤ length old → answer normalised u (length old) ≡ answer normalised v (length old) → out_of normalised u old ≡ out_of normalised v old
    → kind_answer u ≡ kind_answer v → SameKept u v old old
same_kept u v old h a o k = record { room = h; room' = h; bytes = λ i. take (count_of (a i)) (o i); codes = ap kind_code k; kinds = λ i. (kind_or_open (k i)).defined }

-- ---- document 01's fifth and sixth words, and the fifth with a vowel mark

-- an accepted word with the letters w, none of them a floating mark
record Spells (word : List ℕ) (w : Word) : Type 0 where
  taken : checked word ≡ Ok tt
  spelled : letters word ≡ w
  free : unmarked w ≡ w

fifth_spelt : Spells fifth in_letters
unfolding checked letters encode encode1 run step first filled onto unmarked floating floating_marks
fifth_spelt = record { taken = refl; spelled = refl; free = refl }

sixth_spelt : Spells sixth in_forms
unfolding checked letters encode encode1 run step first filled onto unmarked floating floating_marks
sixth_spelt = record { taken = refl; spelled = refl; free = refl }

marked_spelt : Spells marked with_mark
unfolding checked letters encode encode1 run step first filled onto unmarked floating floating_marks
marked_spelt = record { taken = refl; spelled = refl; free = refl }

-- what the entries answer for it, and outputs that are long enough
module _ (word : List ℕ) (w : Word) (s : Spells word w) where
  asked : {A : Type 0} (f : Word → A) → without_marks f (letters word) ≡ f w
  asked f = ap (without_marks f) s.spelled ∙ ap f s.free

  bytes_are : (f : Word → Word) (t : Word) → f w ≡ t → bytes_of (without_marks f) word ≡ encode t
  unfolding bytes_of
  bytes_are f t q = ap encode (asked f ∙ q)

  normalised_is : (old : List ℕ) (t : Word) → normalise w ≡ t → enough_room ≤ length old → written normalised word old ≡ encode t
  normalised_is old t q h = all-written word old s.taken h ∙ bytes_are normalise t q

  kind_is : (k : Kind) → kind w ≡ k → kind_answer word ≡ Ok (flags k)
  unfolding kind_answer
  kind_is k q = λ i. kind_after (s.taken i) ((asked kind ∙ q) i)

  stem_is : (old : List ℕ) (t : Word) → stem w ≡ t → length (encode t) ≤ length old
      → (stem_answer word (length old) ≡ Ok (length (encode t))) × (written (without_marks stem) word old ≡ encode t)
  stem_is old t q h =
      let b : stem_bytes word ≡ encode t = bytes_are stem t q in
      let n : length (stem_bytes word) ≡ length (encode t) = ap length b in
      (done (without_marks stem) word s.taken (length old) (omega (arith, n)) ∙ ap Ok n, written-done (without_marks stem) word s.taken old (omega (arith, n)) ∙ b)

module _ (old : List ℕ) (h : enough_room ≤ length old) where
  -- the kind is needed
  pub one_word_two_kinds : OneWordTwoKinds old
  unfolding encode encode1
  one_word_two_kinds =
      let m = main_kind_needed in
      let s5 = stem_is fifth in_letters fifth_spelt old (waw ∷ jeem ∷ heh ∷ []) m.letters_stem (omega arith) in
      let s6 = stem_is sixth in_forms sixth_spelt old (alef ∷ lam ∷ waw ∷ jeem ∷ []) m.forms_stem (omega arith) in
      record {
        fifth_bytes = normalised_is fifth in_letters fifth_spelt old in_letters m.letters h;
        sixth_bytes = normalised_is sixth in_forms sixth_spelt old in_letters m.forms h;
        fifth_kind = kind_is fifth in_letters fifth_spelt DEFINED m.letters_kind;
        sixth_kind = kind_is sixth in_forms sixth_spelt OPEN m.forms_kind;
        fifth_answer = s5.0;
        sixth_answer = s6.0;
        fifth_stem = s5.1;
        sixth_stem = s6.1;
      }

  -- and two spellings of one kind are the same to the index
  pub one_word_one_kind : SameKept fifth marked old old
  one_word_one_kind =
      let m = main_kind_needed in
      let k5 = kind_is fifth in_letters fifth_spelt DEFINED m.letters_kind in
      let km = kind_is marked with_mark marked_spelt DEFINED m.mark_kind in
      record {
        room = h;
        room' = h;
        bytes = normalised_is fifth in_letters fifth_spelt old in_letters m.letters h ∙ sym (normalised_is marked with_mark marked_spelt old in_letters m.mark h);
        codes = ap kind_code (k5 ∙ sym km);
        kinds = λ i. (kind_or_open ((k5 ∙ sym km) i)).defined;
      }
