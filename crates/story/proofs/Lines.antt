-- A line, and lines one behind the other. Assumes nothing.
use mathlib.Core.Path.{◌≡◌, refl, sym, ap, ◌∙◌, subst}
use mathlib.Core.Bool.{true}
use mathlib.Core.List.{List, [], ◌∷◌, ◌++◌, append_assoc, append-nil}
use Prim.Native.Nat.{ℕ, ◌+◌, ◌-◌, ◌≤◌}
use native.Mathlib.Omega.{arith}
use lib.Dec.{ltb}
use lib.ListN.{length, length-append}
use borrow.Author.Tests.{ltb-true}
use Rattle.std.specs.Prelude.{decimal}
use Rattle.std.specs.List.{All}
use Rattle.std.proofs.lemmas.List.Elements.{All-nil, All-cons, All-head, All-tail}
use Rattle.definition.specs.Words.{Word, every}
use Rattle.definition.proofs.Match.{both_0, both_1}
use Rattle.utf8.specs.Utf8.{encode}
use Rattle.history.specs.Steps.{Step, name, Deed, row_of}
use Rattle.history.specs.History.{Change, counted, numbered}
use Rattle.history.specs.Laws.{Listed}
use Rattle.history.proofs.Rows.{row_test, four_digits, short_rows}
use Rattle.history.specs.Text.{space, lf, spelt, line, text}
use Rattle.story.specs.declared.page.Page.{Page}
use Rattle.story.specs.Entry.{story_room}
use Rattle.story.specs.Telling.{written, Adds, left_after, lines, Tells, Fits, IsDeed}
use Rattle.story.proofs.Spelling.{Low}

-- the letters of a row that is listed have four digits
low_of : (w : Word) → every (λ (c : ℕ). ltb c 65536) w ≡ true → Low w
low_of [] e = tt
low_of (c ∷ w) e = (ltb-true c 65536 (both_0 (ltb c 65536) _ e), low_of w (both_1 (ltb c 65536) _ e))

-- ---- one line
abbrev pub change : ℕ → Deed → Change
change n d = record { deed = d; left = counted n d }

abbrev Few : Change → Type 0
Few c = c.left ≤ 255

module _ (p : Page) (d : Deed) (f : Fits p (d ∷ [])) where
  abbrev left : ℕ
  left = counted p.letters d

  pub row_listed : Listed d
  row_listed = All-head Listed d [] f.listed

  pub row_low : Low (row_of d)
  unfolding row_of
  row_low = low_of (row_of d) (row_test (λ (s : Step). four_digits) short_rows d row_listed)

  pub left_small : counted p.letters d ≤ 255
  unfolding numbered
  left_small = All-head Few (change p.letters d) [] f.small

  pub line_room : p.len + length (name d.step) + 1 + length (spelt (row_of d)) + 1 + length (decimal (counted p.letters d)) + 1 ≤ story_room
  unfolding numbered text line
  line_room =
      let c : List ℕ = decimal left in
      omega (
        arith,
        f.room,
        length-append (line (change p.letters d)) [],
        length-append (name d.step) (space ∷ (spelt (row_of d) ++ (space ∷ (c ++ (lf ∷ []))))),
        length-append (spelt (row_of d)) (space ∷ (c ++ (lf ∷ []))),
        length-append c (lf ∷ []),
      )

-- the parts of a line, as they are written: in front of the number, and from the number on
pub line_told : (p q r : Page) (d : Deed) → Adds p (name d.step ++ (space ∷ []) ++ spelt (row_of d) ++ (space ∷ [])) q
    → Adds (record { letters = counted p.letters d; len = q.len; text = q.text }) (decimal (counted p.letters d) ++ (lf ∷ [])) r → Tells p (d ∷ []) r
unfolding numbered text line left_after
line_told p q r d a b =
    let n : List ℕ = name d.step in
    let s : List ℕ = spelt (row_of d) in
    let c : List ℕ = decimal (counted p.letters d) ++ (lf ∷ []) in
    let joined : n ++ (space ∷ []) ++ s ++ (space ∷ []) ++ c ≡ line (change p.letters d) ++ [] =
    append_assoc (n ++ (space ∷ []) ++ s) (space ∷ []) c
    ∙ append_assoc (n ++ (space ∷ [])) s (space ∷ c)
    ∙ append_assoc n (space ∷ []) (s ++ (space ∷ c))
    ∙ sym (append-nil (line (change p.letters d))) in
    record {
      text = b.text ∙ ap (λ (t : List ℕ). t ++ c) a.text ∙ append_assoc (written p) (n ++ (space ∷ []) ++ s ++ (space ∷ [])) c ∙ ap (λ (t : List ℕ). written p ++ t) joined;
      len = omega (arith, b.len, a.len, ap length joined, length-append (n ++ (space ∷ []) ++ s ++ (space ∷ [])) c);
      letters = b.letters;
    }

-- the number that is written: of the letters of the row, counted in the page q, as many are put
pub left_is : (p q : Page) (d : Deed) (step_name row : List ℕ) (puts : ℕ) → IsDeed d step_name row puts → q.letters ≡ p.letters
    → (count left : ℕ) → ((cs : Word) → row ≡ encode cs → count ≡ length cs) → left ≡ q.letters - count → left + puts ≡ counted p.letters d
unfolding counted
left_is p q d step_name row puts i e count left f g = omega (arith, e, f (row_of d) i.row.1, g, i.puts)

-- ---- lines one behind the other
numbered_joined : (n : ℕ) (ds es : List Deed) → numbered n (ds ++ es) ≡ numbered n ds ++ numbered (left_after n ds) es
unfolding numbered left_after
numbered_joined n [] es = refl
numbered_joined n (d ∷ ds) es = ap (λ (cs : List Change). change n d ∷ cs) (numbered_joined (counted n d) ds es)

text_joined : (cs es : List Change) → text (cs ++ es) ≡ text cs ++ text es
unfolding text
text_joined [] es = refl
text_joined (c ∷ cs) es = ap (λ (t : List ℕ). line c ++ t) (text_joined cs es) ∙ sym (append_assoc (line c) (text cs) (text es))

pub lines_joined : (n : ℕ) (ds es : List Deed) → lines n (ds ++ es) ≡ lines n ds ++ lines (left_after n ds) es
lines_joined n ds es = ap text (numbered_joined n ds es) ∙ text_joined (numbered n ds) (numbered (left_after n ds) es)

left_joined : (n : ℕ) (ds es : List Deed) → left_after n (ds ++ es) ≡ left_after (left_after n ds) es
unfolding left_after
left_joined n [] es = refl
left_joined n (d ∷ ds) es = left_joined (counted n d) ds es

all_parts : {A : Type 0} (P : A → Type 0) (xs ys : List A) → All P (xs ++ ys) → All P xs × All P ys
all_parts P [] ys h = (All-nil P, h)
all_parts P (x ∷ xs) ys h = let t = all_parts P xs ys (All-tail P x (xs ++ ys) h) in (All-cons P x xs (All-head P x (xs ++ ys) h) t.0, t.1)

module _ (ds es : List Deed) where
  pub tells_both : {p q r : Page} → Tells p ds q → Tells q es r → Tells p (ds ++ es) r
  tells_both {p} {q} h g =
      let more : lines q.letters es ≡ lines (left_after p.letters ds) es = ap (λ (n : ℕ). lines n es) h.letters in
      let all : lines p.letters ds ++ lines q.letters es ≡ lines p.letters (ds ++ es) = ap (λ (t : List ℕ). lines p.letters ds ++ t) more ∙ sym (lines_joined p.letters ds es) in
      record {
        text = g.text ∙ ap (λ (t : List ℕ). t ++ lines q.letters es) h.text ∙ append_assoc (written p) (lines p.letters ds) (lines q.letters es) ∙ ap (λ (t : List ℕ). written p ++ t) all;
        len = omega (arith, g.len, h.len, ap length all, length-append (lines p.letters ds) (lines q.letters es));
        letters = g.letters ∙ ap (λ (n : ℕ). left_after n es) h.letters ∙ sym (left_joined p.letters ds es);
      }

  -- room for both is room for the first, and behind it for the second
  module _ (p : Page) (f : Fits p (ds ++ es)) where
    few_parts : All Few (numbered p.letters ds) × All Few (numbered (left_after p.letters ds) es)
    few_parts = all_parts Few (numbered p.letters ds) (numbered (left_after p.letters ds) es) (subst (All Few) (numbered_joined p.letters ds es) f.small)

    pub fits_first : Fits p ds
    fits_first = record {
      listed = (all_parts Listed ds es f.listed).0;
      small = few_parts.0;
      room = omega (arith, f.room, ap length (lines_joined p.letters ds es), length-append (lines p.letters ds) (lines (left_after p.letters ds) es));
    }

    pub fits_second : (q : Page) → Tells p ds q → Fits q es
    fits_second q h = record {
      listed = (all_parts Listed ds es f.listed).1;
      small = subst (λ (n : ℕ). All Few (numbered n es)) (sym h.letters) few_parts.1;
      room =
          omega (arith, f.room, h.len, ap (λ (n : ℕ). length (lines n es)) h.letters, ap length (lines_joined p.letters ds es), length-append (lines p.letters ds) (lines (left_after p.letters ds) es));
    }

pub tells_none : (p : Page) → Tells p [] p
unfolding numbered text left_after
tells_none p = record { text = sym (append-nil (written p)); len = omega arith; letters = refl }
