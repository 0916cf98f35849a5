-- `normalize::r_Normalize_post` meets its contract: the array holds the word finished. Assumes nothing.
use mathlib.Core.Path.{◌≡◌, ap, ◌∙◌}
use Prim.Native.Nat.{ℕ, ◌-◌}
use native.Mathlib.Omega.{arith}
use lib.ListN.{length, take}
use lib.Seq.{take_at}
use Rattle.arabic.proofs.Standing.{encoded, finished}
use Rattle.arabic.proofs.normalize.r_Normalize_post.Goals as goal

pub returns : goal.returns
returns c = λ w ps s.
    let x = c.args.env in
    let z : x.limit - 0 ≡ x.limit = omega arith in
    let t = ap (λ (n : ℕ). take n x.current) z in
    let f = c.finish_text.ensures w (encoded s _ t) in
    finished w ps s _ c.finish_text.new.text _ (take_at c.finish_text.new.text _ x.limit (omega (arith, f.sized, ap length (t ∙ s.bytes), s.sized))) f
