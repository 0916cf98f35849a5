-- The examples' lines, by computing. Assumes nothing.
use mathlib.Core.Path.{◌≡◌, refl}
use mathlib.Core.List.{List, map}
use Prim.Native.Nat.{ℕ}
use Rattle.definition.specs.Words.{same, begins_with}
use Rattle.lines.specs.Plain.{skip_mark, onto, lines_of}
use Rattle.lines.specs.Examples.{examples}

pub examples_right : map (λ (e : List ℕ × List (List ℕ)). lines_of (skip_mark e.0)) examples ≡ map (λ (e : List ℕ × List (List ℕ)). e.1) examples
unfolding skip_mark begins_with same lines_of onto
examples_right = refl
