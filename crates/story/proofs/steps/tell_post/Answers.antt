-- `tell_post` meets its contract: the last letter, and then the others. Assumes nothing.
use mathlib.Core.Path.{refl}
use Rattle.history.specs.Steps.{normalize_post_last, normalize_post_other, name}
use Rattle.history.specs.History.{last_of, but_last}
use Rattle.story.proofs.PostLines.{to_end, last_keys, other_keys, post_told}
use Rattle.story.proofs.steps.tell_post.Goals as goal

pub tell_keys-requires-clause-keys : goal.tell_keys-requires-clause-keys
unfolding name
tell_keys-requires-clause-keys c =
    let r = c.requires in
    (normalize_post_last, (last_of r.0, last_keys r.0 r.1.1 _ (to_end c.args.text.now c.last_letter-last.result (last_of r.0) (c.last_letter-last.ensures.parts r.0 r.1.0).1) (λ l x e. e.0) _ refl))

pub tell_keys-requires-2-clause-keys : goal.tell_keys-requires-2-clause-keys
unfolding name
tell_keys-requires-2-clause-keys c =
    let r = c.requires in
    let p = c.last_letter-last.ensures.parts r.0 r.1.0 in
    let t = c.tell_keys.ensures normalize_post_last (last_of r.0) (last_keys r.0 r.1.1 _ (to_end c.args.text.now c.last_letter-last.result (last_of r.0) p.1) (λ l x e. e.0) _ refl) in
    (normalize_post_other, (but_last r.0, other_keys r.0 r.1.1 c.tell_keys.new.page t _ p.0 (λ l x e. e.1) _ refl))

pub returns : goal.returns
unfolding name
returns c = λ w e f.
    let p = c.last_letter-last.ensures.parts w e in
    let t = c.tell_keys.ensures normalize_post_last (last_of w) (last_keys w f _ (to_end c.args.text.now c.last_letter-last.result (last_of w) p.1) (λ l x e. e.0) _ refl) in
    post_told w c.args.page.now c.tell_keys.new.page c.tell_keys-2.new.page t
    (c.tell_keys-2.ensures normalize_post_other (but_last w) (other_keys w f c.tell_keys.new.page t _ p.0 (λ l x e. e.1) _ refl))
