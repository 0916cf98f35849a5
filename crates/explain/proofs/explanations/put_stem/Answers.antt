-- `put_stem` meets its contract: so much room is never too little. Assumes nothing.
use mathlib.Core.Path.{refl, sym, ap, ◌∙◌}
use native.Mathlib.Omega.{arith}
use Rattle.stemmer.specs.Entries.{without_endings}
use Rattle.explain.proofs.Putting.{stem_puts, ok_is, ok_stem}
use Rattle.explain.proofs.explanations.put_stem.Goals as goal

pub unwrap-requires : goal.unwrap-requires
unwrap-requires c =
    let s = c.stem.ensures in
    ok_stem c.stem.result _ (stem_puts c.args.word.now c.args.out.now c.stem.new.out c.args.at _ c.requires.accepted (omega (arith, c.requires.room)) (omega arith) c.stem.result s.value s.out_len_bound s.out_after).done

pub overflow_add-result : goal.overflow_add-result
overflow_add-result c =
    let s = c.stem.ensures in
    let p = stem_puts c.args.word.now c.args.out.now c.stem.new.out c.args.at _ c.requires.accepted (omega (arith, c.requires.room)) (omega arith) c.stem.result s.value s.out_len_bound s.out_after in
    let e = ok_is (sym (ap without_endings c.unwrap.ensures) ∙ p.done) in
    omega (arith, p.fits, e, c.requires.room)

pub returns : goal.returns
returns c =
    let s = c.stem.ensures in
    let p = stem_puts c.args.word.now c.args.out.now c.stem.new.out c.args.at _ c.requires.accepted (omega (arith, c.requires.room)) (omega arith) c.stem.result s.value s.out_len_bound s.out_after in
    let e = ok_is (sym (ap without_endings c.unwrap.ensures) ∙ p.done) in
    record { value = rw e refl; out_after = rw e p.left; fits = omega (arith, p.fits, e) }
