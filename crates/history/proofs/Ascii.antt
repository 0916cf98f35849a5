-- A story has ASCII bytes alone. Assumes nothing.
use mathlib.Core.Path.{◌≡◌, refl}
use mathlib.Core.Bool.{Bool, true, false}
use mathlib.Core.List.{List, [], ◌∷◌}
use Prim.Native.Nat.{ℕ, zero, suc, ◌/◌, ◌%◌, ◌<◌}
use native.Mathlib.Omega.{arith}
use native.Mathlib.Nat.{mod-lt}
use lib.Dec.{eqb, ltb}
use borrow.Author.Tests.{ltb-true}
use Rattle.std.specs.Fmt.{digit_glyph, digits_onto, digits, decimal}
use Rattle.std.specs.List.{All}
use Rattle.std.proofs.lemmas.List.Elements.{All-nil, All-cons, All-head, All-tail, All-append, All-weaker}
use Rattle.definition.specs.Words.{Word, every}
use Rattle.definition.specs.Tables.{Row, A_0, A_1, A_2, A_4, A_5, A_6, A_7, A_8, A_9, A_11, A_12, A_13, A_14, A_15, A_16, A_17, A_18, A_19, A_20, A_21}
use Rattle.definition.specs.Endings.{suffix}
use Rattle.definition.specs.Fronts.{prefix}
use Rattle.definition.specs.Floating.{floating_marks}
use Rattle.definition.proofs.Match.{by}
use Rattle.history.specs.Steps.{Step, name, steps, table_of, Deed, row_of}
use Rattle.history.specs.History.{Letters, start, play, deeds, Change, told, history}
use Rattle.history.specs.Text.{space, lf, spelt, line, text, story}
use Rattle.history.specs.Laws.{Listed}
use Rattle.history.proofs.Rows.{all_pass, step_test, every_row, row_test}
use Rattle.history.proofs.Playing.{in_place_listed}
use Rattle.history.proofs.Playback.{plays}

abbrev Ascii : ℕ → Type 0
Ascii b = b < 128

abbrev ascii : ℕ → Bool
ascii b = ltb b 128

passed_ascii : (bs : List ℕ) → every ascii bs ≡ true → All Ascii bs
passed_ascii bs e = All-weaker (λ (b : ℕ). ascii b ≡ true) Ascii (λ b t. ltb-true b 128 t) bs (all_pass ascii bs e)

-- ---- names and rows, by computing

ascii_names : every (λ (s : Step). every ascii (name s)) steps ≡ true
unfolding name
ascii_names = refl

name_ascii : (s : Step) → All Ascii (name s)
name_ascii s = passed_ascii (name s) (step_test (λ (s : Step). every ascii (name s)) ascii_names s)

abbrev spelt_in_ascii : Step → Row → Bool
spelt_in_ascii s k = every ascii (spelt k.letters)

ascii_rows : every_row spelt_in_ascii ≡ true
unfolding table_of floating_marks suffix prefix spelt A_0 A_1 A_2 A_4 A_5 A_6 A_7 A_8 A_9 A_11 A_12 A_13 A_14 A_15 A_16 A_17 A_18 A_19 A_20 A_21
ascii_rows = refl

row_ascii : (d : Deed) → Listed d → All Ascii (spelt (row_of d))
unfolding row_of
row_ascii d h = passed_ascii _ (row_test spelt_in_ascii ascii_rows d h)

-- ---- the number

glyph_ascii : (d : ℕ) → d < 10 → digit_glyph false d < 128
glyph_ascii d h = by (ltb d 10) (λ t. rw t (omega arith)) (λ t. rw t (omega arith))

digits_ascii : (k n : ℕ) (acc : List ℕ) → All Ascii acc → All Ascii (digits_onto k 10 false n acc)
digits_ascii zero n acc h = h
digits_ascii (suc k) n acc h =
    let more : All Ascii (digit_glyph false (n % 10) ∷ acc) = All-cons Ascii (digit_glyph false (n % 10)) acc (glyph_ascii (n % 10) (mod-lt n (omega arith))) h in
    by (eqb (n / 10) 0) (λ t. rw t more) (λ t. rw t (digits_ascii k (n / 10) (digit_glyph false (n % 10) ∷ acc) more))

decimal_ascii : (n : ℕ) → All Ascii (decimal n)
unfolding digits
decimal_ascii n = digits_ascii 64 n [] (All-nil Ascii)

-- ---- lines

line_ascii : (c : Change) → Listed c.deed → All Ascii (line c)
unfolding line
line_ascii c h =
    let end : All Ascii (lf ∷ []) = All-cons Ascii lf [] (omega arith) (All-nil Ascii) in
    let number = All-append Ascii (decimal c.left) (lf ∷ []) (decimal_ascii c.left) end in
    let row = All-append Ascii (spelt (row_of c.deed)) _ (row_ascii c.deed h) (All-cons Ascii space _ (omega arith) number) in
    All-append Ascii (name c.deed.step) _ (name_ascii c.deed.step) (All-cons Ascii space _ (omega arith) row)

told_ascii : (p : Letters) (ds : List Deed) → All Listed ds → All Ascii (text (told p ds))
unfolding text told
told_ascii p [] h = All-nil Ascii
told_ascii p (d ∷ ds) h = All-append Ascii (line (record { deed = d; left = _ })) (text (told (play d p) ds)) (line_ascii _ (All-head Listed d ds h)) (told_ascii (play d p) ds (All-tail Listed d ds h))

pub story_ascii : (w : Word) → All (λ (b : ℕ). b < 128) (story w)
unfolding story history
story_ascii w = told_ascii (start w) (deeds w) (in_place_listed (start w) (deeds w) (plays w).1.places)
