-- `put_story` meets its contract: so much room is never too little. Assumes nothing.
use mathlib.Core.Path.{refl, sym, ◌∙◌}
use native.Mathlib.Omega.{arith}
use Rattle.explain.proofs.Putting.{story_puts, ok_is}
use Rattle.explain.proofs.explanations.put_story.Goals as goal

pub unwrap-requires : goal.unwrap-requires
unwrap-requires c =
    let s = c.story.ensures in
    rw (story_puts c.args.word.now c.args.out.now c.story.new.out c.args.at _ c.requires.accepted (omega (arith, c.requires.room)) (omega arith) c.story.result s.value s.room_bound s.out_after).done refl

pub overflow_add-result : goal.overflow_add-result
overflow_add-result c =
    let s = c.story.ensures in
    let p = story_puts c.args.word.now c.args.out.now c.story.new.out c.args.at _ c.requires.accepted (omega (arith, c.requires.room)) (omega arith) c.story.result s.value s.room_bound s.out_after in
    let e = ok_is (sym c.unwrap.ensures ∙ p.done) in
    omega (arith, p.fits, e, c.requires.room)

pub returns : goal.returns
returns c =
    let s = c.story.ensures in
    let p = story_puts c.args.word.now c.args.out.now c.story.new.out c.args.at _ c.requires.accepted (omega (arith, c.requires.room)) (omega arith) c.story.result s.value s.room_bound s.out_after in
    let e = ok_is (sym c.unwrap.ensures ∙ p.done) in
    record { value = rw e refl; out_after = rw e p.left; fits = omega (arith, p.fits, e) }
