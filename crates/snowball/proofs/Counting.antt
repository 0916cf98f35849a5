-- Counting letters: by the bytes that start one, and by the library's `nth`. Assumes nothing.
use mathlib.Core.Path.{◌≡◌, refl, sym, ap, ◌∙◌}
use mathlib.Core.List.{List}
use Prim.Native.Nat.{ℕ, ◌-◌, ◌≤◌, ◌<◌}
use native.Mathlib.Omega.{arith}
use lib.Dec.{leb}
use lib.ListN.{length, take}
use lib.Seq.{take_all}
use borrow.Author.Tests.{le-leb, lt-leb}
use Rattle.std.proofs.Common.{Option, Some, None}
use Rattle.std.specs.List.{count_by, filter, slice_get}
use Rattle.std.specs.Option.{is_some, option_map}
use Rattle.std.proofs.lemmas.List.Recursion.{is_count_by}
use Rattle.std.proofs.lemmas.List.Sums.{length-filter}
use Rattle.std.proofs.lemmas.Option.{slice_get_past, slice_get-get_or}
use Rattle.definition.proofs.Match.{by, by_le}
use Rattle.utf8.specs.Utf8.{encode}
use Rattle.utf8.specs.Places.{starts, leads}
use Rattle.utf8.proofs.Places.{leads-encode}

leads_count : (bytes : List ℕ) → leads bytes ≡ count_by starts bytes
leads_count bytes = is_count_by leads starts refl (λ x xs. by (starts x) (λ e. rw e (omega arith)) (λ e. rw e refl)) bytes

pub leads_counted : (n i : ℕ) (bytes : List ℕ) → n ≡ count_by starts (take i bytes) → length bytes ≤ i → n ≡ leads bytes
leads_counted n i bytes e h = e ∙ ap (count_by starts) (take_all i bytes h) ∙ sym (leads_count bytes)

pub leads_letters : (bytes cs : List ℕ) → bytes ≡ encode cs → leads bytes ≡ length cs
leads_letters bytes cs e = ap leads e ∙ leads-encode cs

mapped : {X Y : Type 0} (v : X → Y) (r : Option X) → is_some r ≡ is_some (option_map v r)
mapped v None = refl
mapped v (Some x) = refl

-- the last of so many bytes that start a letter is there just where so many letters are
pub last_letter : {X : Type 0} (v : X → ℕ) (r : Option X) (bytes : List ℕ) (least : ℕ) → 0 < least
    → option_map v r ≡ slice_get (filter starts bytes) (least - 1) → is_some r ≡ leb least (leads bytes)
last_letter v r bytes least h e =
    let xs : List ℕ = filter starts bytes in
    rw (leads_count bytes, ← length-filter starts bytes) (
    mapped v r ∙ ap is_some e ∙ by_le (length xs) (least - 1)
    (λ g. ap is_some (slice_get_past xs (least - 1) g) ∙ sym (lt-leb least (length xs) (omega arith)))
    (λ g. ap is_some (slice_get-get_or xs (least - 1) 0 g) ∙ sym (le-leb least (length xs) (omega arith))))
