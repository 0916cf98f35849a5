-- `story` meets its contract: the page has the story, which is delivered. Assumes nothing.
use mathlib.Core.Path.{refl, sym, subst}
use Rattle.definition.specs.Words.{Word}
use Rattle.places.specs.Places.{typed, marks_out}
use Rattle.places.proofs.Main.{main_unmarked}
use Rattle.stemmer.specs.Entries.{letters}
use Rattle.history.specs.Steps.{floating_mark, name}
use Rattle.history.specs.History.{stem_deeds}
use Rattle.story.specs.Telling.{Tells, Fits}
use Rattle.story.proofs.Entry.{encoded, mark_keys, fits_items, page_told, refused, delivered}
use Rattle.story.proofs.story.Goals as goal

pub returns-in_err-check_word : goal.returns-in_err-check_word
returns-in_err-check_word c =
    let e = c.in_err-check_word in
    refused c.args.word.now c.args.out.now e.field-0.0 e.ensures c.from_residual.result c.from_residual.ensures.1

pub tell_keys-requires-clause-keys : goal.tell_keys-requires-clause-keys
unfolding name
tell_keys-requires-clause-keys c =
    let w = c.args.word.now in
    let ok = sym c.in_ok-check_word.ensures in
    (floating_mark, (letters w, mark_keys w ok _ (c.count_chars.ensures.by_letters (letters w) (encoded w ok).1) refl (λ l x e. e) _ refl))

pub tell_items-requires : goal.tell_items-requires
unfolding name
tell_items-requires c =
    let w = c.args.word.now in
    let ok = sym c.in_ok-check_word.ensures in
    let n = c.count_chars.ensures.by_letters (letters w) (encoded w ok).1 in
    let t = c.tell_keys.ensures floating_mark (letters w) (mark_keys w ok _ n refl (λ l x e. e) _ refl) in
    (c.unmarked_env.ensures.1, (marks_out (typed (letters w)), (c.unmarked_env.ensures.0, subst (λ (x : Word). Fits c.tell_keys.new.page (stem_deeds x)) (sym (main_unmarked (letters w))) (fits_items w ok _ n refl t))))

pub shared_ref_as_front-deliver : goal.shared_ref_as_front-deliver
unfolding name
shared_ref_as_front-deliver c =
    let w = c.args.word.now in
    let ok = sym c.in_ok-check_word.ensures in
    let n = c.count_chars.ensures.by_letters (letters w) (encoded w ok).1 in
    let t = c.tell_keys.ensures floating_mark (letters w) (mark_keys w ok _ n refl (λ l x e. e) _ refl) in
    let u = main_unmarked (letters w) in
    let f = subst (λ (x : Word). Fits c.tell_keys.new.page (stem_deeds x)) (sym u) (fits_items w ok _ n refl t) in
    (page_told w ok _ n refl t c.tell_items.new.page (subst (λ (x : Word). Tells c.tell_keys.new.page (stem_deeds x) c.tell_items.new.page) u (c.tell_items.ensures (marks_out (typed (letters w))) c.unmarked_env.ensures.0 f))).1

pub returns : goal.returns
unfolding name
returns c =
    let w = c.args.word.now in
    let ok = sym c.in_ok-check_word.ensures in
    let n = c.count_chars.ensures.by_letters (letters w) (encoded w ok).1 in
    let t = c.tell_keys.ensures floating_mark (letters w) (mark_keys w ok _ n refl (λ l x e. e) _ refl) in
    let u = main_unmarked (letters w) in
    let f = subst (λ (x : Word). Fits c.tell_keys.new.page (stem_deeds x)) (sym u) (fits_items w ok _ n refl t) in
    let d = c.deliver in
    delivered w c.args.out.now c.in_ok-check_word.ensures _
    (page_told w ok _ n refl t c.tell_items.new.page (subst (λ (x : Word). Tells c.tell_keys.new.page (stem_deeds x) c.tell_items.new.page) u (c.tell_items.ensures (marks_out (typed (letters w))) c.unmarked_env.ensures.0 f))).0
    d.result d.ensures.value d.new.out d.ensures.out_after
