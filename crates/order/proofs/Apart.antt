-- Two steps whose rows cannot both be ends of one word never both take a row. Assumes nothing.
use mathlib.Core.Path.{◌≡◌, refl, ap}
use mathlib.Core.Bool.{Bool, true, not}
use mathlib.Core.Logic.{◌⊎◌, inl, inr}
use mathlib.Core.Option.{Option, none, some}
use Prim.Native.Nat.{ℕ}
use lib.ListN.{length}
use borrow.Author.Tests.{not-true}
use Rattle.definition.specs.Words.{Word, every, ends_with}
use Rattle.definition.specs.Tables.{Row, Table}
use Rattle.definition.specs.Search.{row_at, taken}
use Rattle.definition.specs.Tries.{done, failed}
use Rattle.definition.specs.Endings.{SuffixStep, suffix, Cutting, cut_off, cut_by, cut}
use Rattle.definition.specs.Facts.{Idle}
use Rattle.definition.proofs.Match.{clash}
use Rattle.definition.proofs.Found.{taken_some, all_at}
use Rattle.definition.proofs.Cover.{compatible, fits}
use Rattle.order.proofs.Exchange.{Fails, Clean}

-- no row of the one table can be an end of one word with a row of the other
abbrev pub apart : Table → Table → Bool
apart t u = every (λ (k : Row). every (λ (m : Row). not (compatible k.letters m.letters)) u) t

pub cut_idle : (s : SuffixStep) (v : Cutting) → Idle s v → Fails (cut s) v
unfolding cut
cut_idle s v i = ap (cut_by s v) i

pub cut_clean : (s : SuffixStep) (v : Cutting) → Clean (cut s) v
unfolding cut
cut_clean s v = go (taken (ends_with v.text) (suffix s) (length v.text))
  where
    go : (o : Option ℕ) → ((x : Cutting) × (cut_by s v o ≡ done x)) ⊎ (cut_by s v o ≡ failed v)
    go none = inr refl
    go (some r) = inl (cut_off v (record { step = s; row = r }), refl)

pub one_idle : (s t : SuffixStep) → apart (suffix s).table (suffix t).table ≡ true → (v : Cutting) → Fails (cut s) v ⊎ Fails (cut t) v
one_idle s t c v = go (taken (ends_with v.text) (suffix s) (length v.text)) refl (taken (ends_with v.text) (suffix t) (length v.text)) refl
  where
    go : (o : Option ℕ) → taken (ends_with v.text) (suffix s) (length v.text) ≡ o
        → (p : Option ℕ) → taken (ends_with v.text) (suffix t) (length v.text) ≡ p → Fails (cut s) v ⊎ Fails (cut t) v
    go none e p f = inl (cut_idle s v e)
    go (some r) e none f = inr (cut_idle t v f)
    go (some r) e (some q) f =
        let a = taken_some (ends_with v.text) (suffix s) (length v.text) r e in
        let b = taken_some (ends_with v.text) (suffix t) (length v.text) q f in
        let k : Word = (row_at (suffix s).table r).letters in
        let m : Word = (row_at (suffix t).table q).letters in
        let x = all_at (λ (i : Row). not (compatible k i.letters)) (suffix t).table
        (all_at (λ (j : Row). every (λ (i : Row). not (compatible j.letters i.letters)) (suffix t).table) (suffix s).table c r a.inside) q b.inside in
        absurd (clash (fits v.text k m a.matches b.matches) (not-true (compatible k m) x))
