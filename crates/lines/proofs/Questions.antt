-- No stem holds `?`: it is a key of A_0, and a byte of a longer letter is never below 80. Assumes nothing.
use mathlib.Core.Path.{◌≡◌, refl, sym, ap, ◌∙◌}
use mathlib.Core.List.{List, [], ◌∷◌, ◌++◌}
use Prim.Native.Nat.{ℕ, ◌<◌}
use native.Mathlib.Omega.{arith}
use lib.Dec.{ltb}
use lib.ListN.{length}
use Rattle.definition.specs.Words.{Word}
use Rattle.definition.specs.Tables.{A_0}
use Rattle.definition.specs.Search.{row_at}
use Rattle.definition.specs.Stem.{stem}
use Rattle.definition.specs.Floating.{without_marks}
use Rattle.definition.specs.Demand3.{Plain, AllOf}
use Rattle.definition.proofs.Main.{main_unmarked_demand3}
use Rattle.definition.proofs.Match.{by}
use Rattle.utf8.specs.Utf8.{encode1, encode}
use Rattle.stemmer.specs.Entries.{letters, bytes_of, stem_bytes}
use Rattle.lines.specs.Refusals.{question_mark}
use Rattle.lines.specs.Facts.{Without}

free_append : (a b : List ℕ) → Without question_mark a → Without question_mark b → Without question_mark (a ++ b)
free_append [] b f g = g
free_append (x ∷ a) b f g = (f.0, free_append a b f.1 g)

free_letter : (c : ℕ) → (c ≡ question_mark → ⊥) → Without question_mark (encode1 c)
unfolding encode1
free_letter c h =
    by (ltb c 0x80) (λ t. rw t (h, tt))
    (λ t. by (ltb c 0x800) (λ u. rw (t, u) ((λ e. omega arith), ((λ e. omega arith), tt)))
    (λ u. by (ltb c 0x10000) (λ v. rw (t, u, v) ((λ e. omega arith), ((λ e. omega arith), ((λ e. omega arith), tt))))
    (λ v. rw (t, u, v) ((λ e. omega arith), ((λ e. omega arith), ((λ e. omega arith), ((λ e. omega arith), tt)))))))

-- the tenth row of A_0
question_row : (9 < length A_0) × ((row_at A_0 9).letters ≡ question_mark ∷ [])
unfolding A_0
question_row = (omega arith, refl)

plain_free : (c : ℕ) → Plain c → c ≡ question_mark → ⊥
plain_free c p e = p.no_key 9 question_row.0 (question_row.1 ∙ ap (λ (x : ℕ). x ∷ []) (sym e))

free_word : (w : Word) → AllOf Plain w → Without question_mark (encode w)
unfolding encode
free_word [] p = tt
free_word (c ∷ w) p = free_append (encode1 c) (encode w) (free_letter c (plain_free c p.0)) (free_word w p.1)

pub no_question : (w : List ℕ) → Without question_mark (stem_bytes w)
unfolding bytes_of
no_question w = free_word (without_marks stem (letters w)) (main_unmarked_demand3 (letters w)).plain
