-- `tell_items` meets its contract: the lines of one item stand behind those of the other. Assumes nothing.
use mathlib.Core.Path.{refl, sym, ◌∙◌}
use Rattle.definition.specs.Kind.{kind}
use Rattle.definition.specs.Normal.{normalise}
use Rattle.places.specs.Places.{letters_of, normal_places}
use Rattle.arabic.proofs.Standing.{encoded}
use Rattle.history.specs.Steps.{normalize_pre, name}
use Rattle.story.proofs.ItemLines.{kinds_are, pre_keys, fits_endings, fits_fronts, fits_post, items_told}
use Rattle.story.proofs.steps.tell_items.Goals as goal

pub tell_keys-requires-clause-keys : goal.tell_keys-requires-clause-keys
unfolding name
tell_keys-requires-clause-keys c =
    let r = c.requires.1 in
    let w = letters_of r.0 in
    let ks = kinds_are c.checked.result.outcome (kind w) (c.checked.ensures w (encoded r.1.0 c.text.result.now c.text.ensures)).0 in
    (normalize_pre, (w, pre_keys w _ _ ks.0 ks.1 r.1.1 _ (encoded r.1.0 c.text-2.result.now c.text-2.ensures) (λ l x e. e) _ refl))

pub tell_endings-cut-requires : goal.tell_endings-cut-requires
unfolding name
tell_endings-cut-requires c =
    let r = c.requires.1 in
    let w = letters_of r.0 in
    let ks = kinds_are c.checked.result.outcome (kind w) (c.checked.ensures w (encoded r.1.0 c.text.result.now c.text.ensures)).0 in
    let t = c.tell_keys.ensures normalize_pre w (pre_keys w _ _ ks.0 ks.1 r.1.1 _ (encoded r.1.0 c.text-2.result.now c.text-2.ensures) (λ l x e. e) _ refl) in
    (ks.1 ∙ sym ks.0, (normalise w, (normal_places r.0, (c.r_Normalize_pre-normalised.ensures r.0 r.1.0, fits_endings w _ _ ks.0 ks.1 r.1.1 t))))

pub tell_fronts-changed-requires : goal.tell_fronts-changed-requires
unfolding name
tell_fronts-changed-requires c =
    let r = c.requires.1 in
    let w = letters_of r.0 in
    let ks = kinds_are c.checked.result.outcome (kind w) (c.checked.ensures w (encoded r.1.0 c.text.result.now c.text.ensures)).0 in
    let t = c.tell_keys.ensures normalize_pre w (pre_keys w _ _ ks.0 ks.1 r.1.1 _ (encoded r.1.0 c.text-2.result.now c.text-2.ensures) (λ l x e. e) _ refl) in
    let n = c.r_Normalize_pre-normalised.ensures r.0 r.1.0 in
    let u = c.tell_endings-cut.ensures.tells (normalise w) (normal_places r.0) n (fits_endings w _ _ ks.0 ks.1 r.1.1 t) in
    let x = c.tell_endings-cut.ensures.left (normalise w) (normal_places r.0) n in
    (_, (x.0, (x.1, fits_fronts w _ _ ks.0 ks.1 r.1.1 t u)))

pub text-requires-3 : goal.text-requires-3
text-requires-3 c =
    let r = c.requires.1 in
    let x = c.tell_endings-cut.ensures.left (normalise (letters_of r.0)) (normal_places r.0) (c.r_Normalize_pre-normalised.ensures r.0 r.1.0) in
    (c.tell_fronts-changed.ensures.left _ x.0 x.1).1.within

pub tell_post-requires : goal.tell_post-requires
unfolding name
tell_post-requires c =
    let r = c.requires.1 in
    let w = letters_of r.0 in
    let ks = kinds_are c.checked.result.outcome (kind w) (c.checked.ensures w (encoded r.1.0 c.text.result.now c.text.ensures)).0 in
    let t = c.tell_keys.ensures normalize_pre w (pre_keys w _ _ ks.0 ks.1 r.1.1 _ (encoded r.1.0 c.text-2.result.now c.text-2.ensures) (λ l x e. e) _ refl) in
    let n = c.r_Normalize_pre-normalised.ensures r.0 r.1.0 in
    let u = c.tell_endings-cut.ensures.tells (normalise w) (normal_places r.0) n (fits_endings w _ _ ks.0 ks.1 r.1.1 t) in
    let x = c.tell_endings-cut.ensures.left (normalise w) (normal_places r.0) n in
    let v = c.tell_fronts-changed.ensures.tells _ x.0 x.1 (fits_fronts w _ _ ks.0 ks.1 r.1.1 t u) in
    let y = c.tell_fronts-changed.ensures.left _ x.0 x.1 in
    (_, (encoded y.1 c.text-3.result.now c.text-3.ensures, fits_post w _ _ ks.0 ks.1 r.1.1 t u v))

pub returns : goal.returns
unfolding name
returns c = λ ts st f.
    let w = letters_of ts in
    let ks = kinds_are c.checked.result.outcome (kind w) (c.checked.ensures w (encoded st c.text.result.now c.text.ensures)).0 in
    let t = c.tell_keys.ensures normalize_pre w (pre_keys w _ _ ks.0 ks.1 f _ (encoded st c.text-2.result.now c.text-2.ensures) (λ l x e. e) _ refl) in
    let n = c.r_Normalize_pre-normalised.ensures ts st in
    let u = c.tell_endings-cut.ensures.tells (normalise w) (normal_places ts) n (fits_endings w _ _ ks.0 ks.1 f t) in
    let x = c.tell_endings-cut.ensures.left (normalise w) (normal_places ts) n in
    let v = c.tell_fronts-changed.ensures.tells _ x.0 x.1 (fits_fronts w _ _ ks.0 ks.1 f t u) in
    let y = c.tell_fronts-changed.ensures.left _ x.0 x.1 in
    items_told w _ _ ks.0 ks.1 f t u v c.tell_post.new.page (c.tell_post.ensures _ (encoded y.1 c.text-3.result.now c.text-3.ensures) (fits_post w _ _ ks.0 ks.1 f t u v))
