-- The reader reads a history back from its text. Assumes nothing.
use mathlib.Core.Path.{◌≡◌, refl, sym, ap, ◌∙◌}
use mathlib.Core.Bool.{Bool, true}
use mathlib.Core.List.{List, [], ◌∷◌, ◌++◌, append_assoc}
use mathlib.Core.Option.{some}
use Prim.Native.Nat.{ℕ, zero, suc, ◌+◌, ◌*◌, ◌-◌, ◌/◌, ◌%◌, ◌^◌, ◌≤◌, ◌<◌}
use native.Mathlib.Omega.{arith}
use native.Mathlib.Nat.{div-add-mod', div-div-eq-div-mul, mod-lt}
use lib.Dec.{ltb}
use lib.ListN.{length, length-append}
use borrow.Author.Tests.{ltb-true, ltb-false, lt-ltb, le-leb, lt-leb, ne_eqb}
use Rattle.std.specs.Fmt.{decimal}
use Rattle.std.specs.List.{All}
use Rattle.std.proofs.lemmas.Fmt.{decimal_by_steps_wide}
use Rattle.std.proofs.lemmas.List.Elements.{All-head, All-tail}
use Rattle.definition.specs.Words.{Word, pick, every, same}
use Rattle.definition.specs.Search.{row_at}
use Rattle.definition.specs.Facts.{distinct}
use Rattle.definition.specs.Endings.{verb_step1, verb_step2a, verb_step2b, verb_step2c, noun_step1b, noun_step2a, noun_step2b, noun_step2c1, noun_step2c2, noun_step3}
use Rattle.definition.specs.Fronts.{prefix_step1, prefix_step2, prefix_step3a_noun, prefix_step3b_noun, prefix_step3_verb, prefix_step4_verb}
use Rattle.definition.proofs.Match.{both_0, both_1, by, same_eq, same_refl}
use Rattle.definition.proofs.Unique.{some_letter, longest_is}
use Rattle.history.specs.Steps.{Step, floating_mark, normalize_pre, alef_maqsura, normalize_post_last, normalize_post_other, ending, front, name, steps, table_of, row_of}
use Rattle.history.specs.Steps.{by as deed_by}
use Rattle.history.specs.History.{Change}
use Rattle.history.specs.Text.{space, lf, digit, spelt, line, text}
use Rattle.history.specs.Reader.{Read, got, lost, and_read, fixed, step_in, value_of, all_digits, number4, in_front, letters_in, number_in, row_with, change_of, line_in, in_front_of, lines_after, lines_in, read}
use Rattle.history.specs.Laws.{Readable}
use Rattle.history.proofs.Rows.{step_test, row_test, distinct_rows, four_digits, short_rows}

-- ---- names: no name with its space begins another, by computing
name_read : (s : Step) (t : List ℕ) → step_in steps (name s ++ (space ∷ t)) ≡ got s t
unfolding step_in fixed name
name_read floating_mark t = refl
name_read normalize_pre t = refl
name_read alef_maqsura t = refl
name_read normalize_post_last t = refl
name_read normalize_post_other t = refl
name_read (ending verb_step1) t = refl
name_read (ending verb_step2a) t = refl
name_read (ending verb_step2b) t = refl
name_read (ending verb_step2c) t = refl
name_read (ending noun_step1b) t = refl
name_read (ending noun_step2a) t = refl
name_read (ending noun_step2b) t = refl
name_read (ending noun_step2c1) t = refl
name_read (ending noun_step2c2) t = refl
name_read (ending noun_step3) t = refl
name_read (front prefix_step1) t = refl
name_read (front prefix_step2) t = refl
name_read (front prefix_step3a_noun) t = refl
name_read (front prefix_step3b_noun) t = refl
name_read (front prefix_step3_verb) t = refl
name_read (front prefix_step4_verb) t = refl

-- so a name with its space says which step it is
pub name_tells : (s u : Step) (a b : List ℕ) → name s ++ (space ∷ a) ≡ name u ++ (space ∷ b) → s ≡ u
name_tells s u a b e = let p : got s a ≡ got u b = sym (name_read s a) ∙ ap (step_in steps) e ∙ name_read u b in cc

-- ---- a hexadecimal digit
value_digit : (d : ℕ) → d < 16 → value_of (digit d) ≡ d
value_digit d h = by (ltb d 10)
    (λ t. let l = ltb-true d 10 t in
    rw t (rw (le-leb 0x30 (0x30 + d) (omega arith), le-leb (0x30 + d) 0x39 (omega arith)) (omega arith)))
    (λ t. let l = ltb-false d 10 t in
    rw t (rw (le-leb 0x30 (0x37 + d) (omega arith), lt-leb (0x37 + d) 0x39 (omega arith), le-leb 0x41 (0x37 + d) (omega arith), le-leb (0x37 + d) 0x46 (omega arith)) (omega arith)))

digit_is : (d : ℕ) → d < 16 → ltb (value_of (digit d)) 16 ≡ true
digit_is d h = ap (λ (x : ℕ). ltb x 16) (value_digit d h) ∙ lt-ltb d 16 h

-- ---- a letter of four digits
module _ (c : ℕ) (h : c < 65536) where
  top : c / 4096 < 16
  top = omega arith

  hex_digits : all_digits (digit (c / 4096)) (digit (c / 256 % 16)) (digit (c / 16 % 16)) (digit (c % 16)) ≡ true
  hex_digits =
      rw (digit_is (c / 4096) top, digit_is (c / 256 % 16) (mod-lt (c / 256) (omega arith)), digit_is (c / 16 % 16) (mod-lt (c / 16) (omega arith)), digit_is (c % 16) (mod-lt c (omega arith))) refl

  hex_value : number4 (digit (c / 4096)) (digit (c / 256 % 16)) (digit (c / 16 % 16)) (digit (c % 16)) ≡ c
  hex_value =
      let a = value_digit (c / 4096) top in
      let b = value_digit (c / 256 % 16) (mod-lt (c / 256) (omega arith)) in
      let d = value_digit (c / 16 % 16) (mod-lt (c / 16) (omega arith)) in
      let e = value_digit (c % 16) (mod-lt c (omega arith)) in
      let s : c / 16 / 16 ≡ c / 256 = div-div-eq-div-mul c 16 16 in
      let t : c / 256 / 16 ≡ c / 4096 = div-div-eq-div-mul c 256 16 in
      let f0 : c / 16 * 16 + c % 16 ≡ c = div-add-mod' c 16 in
      let f1 : c / 16 / 16 * 16 + c / 16 % 16 ≡ c / 16 = div-add-mod' (c / 16) 16 in
      let f2 : c / 256 / 16 * 16 + c / 256 % 16 ≡ c / 256 = div-add-mod' (c / 256) 16 in
      (λ i. ((a i * 16 + b i) * 16 + d i) * 16 + e i)
      ∙ ap (λ (x : ℕ). ((x * 16 + c / 256 % 16) * 16 + c / 16 % 16) * 16 + c % 16) (sym t)
      ∙ ap (λ (x : ℕ). (x * 16 + c / 16 % 16) * 16 + c % 16) (f2 ∙ sym s)
      ∙ ap (λ (x : ℕ). x * 16 + c % 16) f1
      ∙ f0

-- letters of four hexadecimal digits
abbrev FourDigits : Word → Type 0
FourDigits [] = Unit {0}
FourDigits (c ∷ w) = (c < 65536) × FourDigits w

letters_read : (w : Word) (t : List ℕ) → 1 ≤ length w → FourDigits w → letters_in (spelt w ++ (space ∷ t)) ≡ got w t
unfolding letters_in spelt
letters_read [] t l h = absurd (omega arith)
letters_read (c ∷ []) t l h =
    ap (λ (b : Bool). pick b (got (number4 (digit (c / 4096)) (digit (c / 256 % 16)) (digit (c / 16 % 16)) (digit (c % 16)) ∷ []) t) lost) (hex_digits c h.0)
    ∙ ap (λ (x : ℕ). got (x ∷ []) t) (hex_value c h.0)
letters_read (c ∷ d ∷ w) t l h =
    ap (λ (b : Bool). pick b (in_front (number4 (digit (c / 4096)) (digit (c / 256 % 16)) (digit (c / 16 % 16)) (digit (c % 16))) (letters_in (spelt (d ∷ w) ++ (space ∷ t)))) lost) (hex_digits c h.0)
    ∙ ap (λ (x : ℕ). in_front x (letters_in (spelt (d ∷ w) ++ (space ∷ t)))) (hex_value c h.0)
    ∙ ap (in_front c) (letters_read (d ∷ w) t (omega arith) h.1)

-- ---- a number in decimal
digit_read : (a d : ℕ) (t : List ℕ) → d < 10 → number_in a ((0x30 + d) ∷ t) ≡ number_in (a * 10 + d) t
unfolding number_in
digit_read a d t h =
    rw (ne_eqb (0x30 + d) lf (λ e. omega arith), le-leb 0x30 (0x30 + d) (omega arith), le-leb (0x30 + d) 0x39 (omega arith))
    (let e : 0x30 + d - 0x30 ≡ d = omega arith in ap (λ (x : ℕ). number_in (a * 10 + x) t) e)

number_read : (n : ℕ) (t : List ℕ) → n < 10 ^ 64 → number_in 0 (decimal n ++ (lf ∷ t)) ≡ got n t
unfolding number_in
number_read n t h = decimal_by_steps_wide (λ m ds. (u : List ℕ) → number_in 0 (ds ++ u) ≡ number_in m u)
    (λ m l u. digit_read 0 m u l ∙ (let e : 0 * 10 + m ≡ m = omega arith in ap (λ (x : ℕ). number_in x u) e))
    (λ m ds l r u.
    ap (number_in 0) (append_assoc ds ((0x30 + m % 10) ∷ []) u)
    ∙ r ((0x30 + m % 10) ∷ u)
    ∙ digit_read (m / 10) (m % 10) u (mod-lt m (omega arith))
    ∙ ap (λ (x : ℕ). number_in x u) (div-add-mod' m 10))
    n h (lf ∷ t)

-- ---- a row and its line
four_digits_of : (w : Word) → every (λ (c : ℕ). ltb c 65536) w ≡ true → FourDigits w
four_digits_of [] e = tt
four_digits_of (c ∷ w) e = (ltb-true c 65536 (both_0 (ltb c 65536) _ e), four_digits_of w (both_1 (ltb c 65536) _ e))

module _ (c : Change) (h : Readable c) where
  abbrev s : Step
  s = c.deed.step

  abbrev r : ℕ
  r = c.deed.row

  row_read : row_with (table_of s) (row_of c.deed) ≡ r
  unfolding row_with row_of
  row_read =
      longest_is (same (row_at (table_of s) r).letters) (table_of s) (step_test (λ (s : Step). distinct (table_of s)) distinct_rows s)
      (λ a b p q e. sym (same_eq _ a p) ∙ same_eq _ b q)
      r h.0 (same_refl (row_at (table_of s) r).letters)
      (λ i l m. let e : length (row_at (table_of s) r).letters ≡ length (row_at (table_of s) i).letters = ap length (same_eq _ _ m) in omega arith)

  spelt_read : (t : List ℕ) → letters_in (spelt (row_of c.deed) ++ (space ∷ t)) ≡ got (row_of c.deed) t
  unfolding row_of
  spelt_read t =
      letters_read (row_at (table_of s) r).letters t (some_letter (table_of s) (step_test (λ (s : Step). distinct (table_of s)) distinct_rows s) r h.0)
      (four_digits_of (row_at (table_of s) r).letters (row_test (λ (s : Step). four_digits) short_rows c.deed h.0))

  change_is : (t : List ℕ) → change_of s (row_of c.deed) c.left t ≡ got c t
  change_is t =
      ap (λ (x : ℕ). pick (ltb x (length (table_of s))) (got (record { deed = deed_by s x; left = c.left }) t) lost) row_read
      ∙ ap (λ (b : Bool). pick b (got c t) lost) (lt-ltb r (length (table_of s)) h.0)

  line_split : (t : List ℕ) → line c ++ t ≡ name s ++ (space ∷ (spelt (row_of c.deed) ++ (space ∷ (decimal c.left ++ (lf ∷ t)))))
  unfolding line
  line_split t =
      append_assoc (name s) _ t
      ∙ ap (λ (x : List ℕ). name s ++ (space ∷ x)) (append_assoc (spelt (row_of c.deed)) _ t
      ∙ ap (λ (x : List ℕ). spelt (row_of c.deed) ++ (space ∷ x)) (append_assoc (decimal c.left) (lf ∷ []) t))

  line_read : (t : List ℕ) → line_in (line c ++ t) ≡ got c t
  unfolding line_in
  line_read t =
      let number : ℕ → List ℕ → Read Change = λ n t3. change_of s (row_of c.deed) n t3 in
      ap line_in (line_split t)
      ∙ ap (λ (x : Read Step). and_read x (λ (s : Step) (t1 : List ℕ). and_read (letters_in t1) (λ (w : Word) (t2 : List ℕ). and_read (number_in 0 t2) (λ (n : ℕ) (t3 : List ℕ). change_of s w n t3)))) (name_read s _)
      ∙ ap (λ (x : Read Word). and_read x (λ (w : Word) (t2 : List ℕ). and_read (number_in 0 t2) (λ (n : ℕ) (t3 : List ℕ). change_of s w n t3))) (spelt_read _)
      ∙ ap (λ (x : Read ℕ). and_read x number) (number_read c.left t h.1)
      ∙ change_is t

-- ---- all lines

line_some : (c : Change) → 1 ≤ length (line c)
unfolding line
line_some c = omega (arith, length-append (name c.deed.step) (space ∷ (spelt (row_of c.deed) ++ (space ∷ (decimal c.left ++ (lf ∷ []))))))

lines_cons : (n : ℕ) (t : List ℕ) → 1 ≤ length t → lines_in (suc n) t ≡ lines_after (line_in t) (lines_in n)
unfolding lines_in
lines_cons n [] h = absurd (omega arith)
lines_cons n (b ∷ t) h = refl

lines_read : (cs : List Change) → All Readable cs → (n : ℕ) → length cs ≤ n → lines_in n (text cs) ≡ some cs
unfolding text
lines_read [] h zero l = unfold lines_in in refl
lines_read [] h (suc n) l = unfold lines_in in refl
lines_read (c ∷ cs) h zero l = absurd (omega arith)
lines_read (c ∷ cs) h (suc n) l =
    lines_cons n (line c ++ text cs) (omega (arith, line_some c, length-append (line c) (text cs)))
    ∙ ap (λ (x : Read Change). lines_after x (lines_in n)) (line_read c (All-head Readable c cs h) (text cs))
    ∙ ap (in_front_of c) (lines_read cs (All-tail Readable c cs h) n (omega arith))

-- a line has a byte at least
fewer : (cs : List Change) → length cs ≤ length (text cs)
unfolding text
fewer [] = omega arith
fewer (c ∷ cs) = omega (arith, fewer cs, line_some c, length-append (line c) (text cs))

pub reads : (cs : List Change) → All Readable cs → read (text cs) ≡ some cs
unfolding read
reads cs h = lines_read cs h (length (text cs)) (fewer cs)

-- two histories with one text are one
pub one_text : (cs ds : List Change) → All Readable cs → All Readable ds → text cs ≡ text ds → cs ≡ ds
one_text cs ds h g e = let p : some cs ≡ some ds = sym (reads cs h) ∙ ap read e ∙ reads ds g in cc
