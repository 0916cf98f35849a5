-- The letters that items 3 and 5 name in words are the rows of A_21, A_1 and A_2, with what the Rust's steps put for each class. Assumes nothing.
use mathlib.Core.Path.{◌≡◌, refl, sym, subst}
use mathlib.Core.Bool.{true}
use mathlib.Core.List.{[], ◌∷◌}
use Prim.Native.Nat.{ℕ}
use lib.Dec.{eqb}
use borrow.Author.Tests.{eqb-true, eqb-false}
use Rattle.definition.specs.Letters.{hamza, alef_madda, alef_hamza_above, waw_hamza, alef_hamza_below, yeh_hamza, alef, waw, alef_maksura, yeh}
use Rattle.definition.specs.Words.{same, begins_with}
use Rattle.definition.specs.Tables.{A_1, A_2, A_21}
use Rattle.definition.specs.Search.{longer, longest}
use Rattle.definition.specs.Endings.{suffix_all_alef_maqsura}
use Rattle.definition.specs.Finish.{last, other}
use Rattle.definition.specs.Facts.{replaced}
use Rattle.definition.proofs.Match.{by}
use Rattle.definition.proofs.Stays.{none_of_five, last-stays}

-- two functions that agree at k agree at c, where c is k
agree_at : (f g : ℕ → ℕ) (c k : ℕ) → f k ≡ g k → eqb c k ≡ true → f c ≡ g c
agree_at f g c k e t = subst (λ (x : ℕ). f x ≡ g x) (sym (eqb-true c k t)) e

pub last_rows : (c : ℕ) → last c ≡ replaced A_1 (hamza ∷ hamza ∷ hamza ∷ []) c
unfolding last A_1 longest longer same begins_with
last_rows c =
    let put : ℕ → ℕ = replaced A_1 (hamza ∷ hamza ∷ hamza ∷ []) in
    by (eqb c alef_madda) (agree_at last put c alef_madda refl)
    (λ t2. by (eqb c alef_hamza_above) (agree_at last put c alef_hamza_above refl)
    (λ t3. by (eqb c waw_hamza) (agree_at last put c waw_hamza refl)
    (λ t4. by (eqb c alef_hamza_below) (agree_at last put c alef_hamza_below refl)
    (λ t5. by (eqb c yeh_hamza) (agree_at last put c yeh_hamza refl)
    (λ t6. rw (t2, t3, t4, t5, t6)
    (last-stays c (none_of_five c (eqb-false c alef_madda t2) (eqb-false c alef_hamza_above t3) (eqb-false c waw_hamza t4) (eqb-false c alef_hamza_below t5) (eqb-false c yeh_hamza t6))))))))

pub other_rows : (c : ℕ) → other c ≡ replaced A_2 (alef ∷ waw ∷ yeh ∷ []) c
unfolding other A_2 longest longer same begins_with
other_rows c =
    let put : ℕ → ℕ = replaced A_2 (alef ∷ waw ∷ yeh ∷ []) in
    by (eqb c alef_madda) (agree_at other put c alef_madda refl)
    (λ t2. by (eqb c alef_hamza_above) (agree_at other put c alef_hamza_above refl)
    (λ t3. by (eqb c waw_hamza) (agree_at other put c waw_hamza refl)
    (λ t4. by (eqb c alef_hamza_below) (agree_at other put c alef_hamza_below refl)
    (λ t5. by (eqb c yeh_hamza) (agree_at other put c yeh_hamza refl)
    (λ t6. rw (t2, t3, t4, t5, t6))))))

pub maqsura-row : (c : ℕ) → suffix_all_alef_maqsura (c ∷ []) ≡ replaced A_21 (yeh ∷ []) c ∷ []
unfolding suffix_all_alef_maqsura A_21 longest longer same begins_with
maqsura-row c = by (eqb c alef_maksura) (λ t. rw t) (λ t. rw t)
