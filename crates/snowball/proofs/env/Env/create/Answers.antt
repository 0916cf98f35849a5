-- `Env::create` meets its contract. Assumes nothing.
use mathlib.Core.Path.{refl, ap, ◌∙◌}
use native.Mathlib.Omega.{arith}
use lib.ListN.{length}
use lib.Seq.{take_at}
use Rattle.snowball.specs.Bytes.{Created}
use Rattle.snowball.proofs.Standing.{created}
use Rattle.snowball.proofs.env.Env.create.Goals as goal

pub returns : goal.returns
returns c =
    let w = c.args.word.now in
    let e = c.copy_from_slice.ensures.after in
    let r : Created w _ =
    record {
      bytes = take_at c.copy_from_slice.new.self _ (length w) (ap length e) ∙ e;
      places = λ k l. c.own_places.ensures k (omega (arith, c.requires));
      limit = refl;
      cursor = refl;
      limit_backward = refl;
      bra = refl;
      ket = refl;
      made = refl;
    } in
    (r, λ cs sc e. created w _ cs r (omega (arith, c.requires)) sc e)
