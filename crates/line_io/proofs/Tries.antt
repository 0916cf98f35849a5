-- What a call that is made again gives in the end.
use Rattle.std.proofs.Common.{ℕ, ◌≡◌, ◌≤◌, arith, IfOk, Result, Ok, Err}
use Rattle.line_io.specs.Tries.{SameSizes}

-- a count that is at most a size which no call changes
pub bounded : {F E : Type 0} (step : F → Result ℕ E → F → Type 0) (given : F → ℕ → Type 0) (call : F) (size : F → ℕ) (r : Result ℕ E)
    → IfOk r (λ n. (last : F) × SameSizes step call last × given last n)
    → ((before : F) (answer : Result ℕ E) (left : F) → step before answer left → size left ≡ size before)
    → ((last : F) (n : ℕ) → given last n → n ≤ size last)
    → IfOk r (λ n. n ≤ size call)
bounded step given call size (Ok n) h same most = omega (arith, h.1 size same, most h.0 n h.2)
bounded step given call size (Err e) h same most = tt
