-- `Env::replace_s` meets its contract. Assumes nothing.
use mathlib.Core.Path.{◌≡◌, refl, ap, ◌∙◌}
use native.Mathlib.Omega.{arith}
use borrow.Author.Rules.{rules}
use Prim.Native.Nat.{ℕ, ◌+◌, ◌-◌}
use lib.ListN.{length, take, drop}
use Rattle.snowball.specs.Stands.{work_size}
use Rattle.snowball.proofs.Copy.{kept-front, moved-tail, copied_bytes}
use Rattle.snowball.proofs.Cut.{moved-behind, moved_least}
use Rattle.snowball.proofs.env.Env.replace_s.Goals as goal
use Rattle.snowball.proofs.env.Env.replace_s.Goals.{then-self-ket, else-self-ket}

pub returns : goal.returns
returns c =
    let x = c.args in
    let e = x.self in
    let n : length e.current ≡ work_size = search rules in
    let m : length e.places ≡ work_size = search rules in
    record {
      bytes =
          copied_bytes e.current c.copy_within.new.self c.copy_from_slice.new.self x.s.now x.bra x.ket e.limit (omega arith) (omega arith) (omega arith)
          (omega arith) c.copy_within.ensures.after c.copy_from_slice.ensures.after;
      places_before = kept-front e.places c.copy_within-2.new.self x.bra (x.ket - length x.s.now) e.limit (omega arith) (omega arith) (omega arith) c.copy_within-2.ensures.after x.bra (omega arith);
      places_behind =
          let z : e.limit - (x.ket - x.bra) + length x.s.now ≡ x.bra + (e.limit - (x.ket - length x.s.now)) = omega arith in
          ap (λ (k : ℕ). drop x.bra (take k c.copy_within-2.new.self)) z
          ∙ moved-tail e.places c.copy_within-2.new.self x.bra (x.ket - length x.s.now) e.limit (omega arith) (omega arith) (omega arith) c.copy_within-2.ensures.after;
      limit = refl;
      cursor = elim c.if-self-ket.branch [ then-self-ket w ↦ w.self-is ∙ moved-behind e.cursor x.bra x.ket (length x.s.now) (omega arith) | else-self-ket w ↦ w.self-is ∙ w.min.ensures ∙ moved_least e.cursor x.bra x.ket (length x.s.now) (omega arith) ];
      limit_backward = refl;
      same = record { bra = refl; ket = refl; made = refl; changes = refl };
    }
