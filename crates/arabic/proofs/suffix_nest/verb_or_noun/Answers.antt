-- `suffix_nest::verb_or_noun` meets its contract. Assumes nothing.
use mathlib.Core.Path.{subst}
use Rattle.std.proofs.Common.{rules}
use Rattle.definition.specs.Tries.{if_failed}
use Rattle.definition.specs.Kind.{Kind, if_open}
use Rattle.definition.specs.Endings.{verb, noun}
use Rattle.arabic.specs.Endings.{Ends, Gives}
use Rattle.arabic.specs.Kinds.{kind_of}
use Rattle.arabic.proofs.Nest.{or_else}
use Rattle.arabic.proofs.suffix_nest.verb_or_noun.Goals as goal

pub returns : goal.returns
returns c = λ ps v st.
    let k = kind_of c.args.context.b_is_defined in
    let r = c.or_else in
    subst (λ (x : Kind). Gives ps r.result (if_failed (if_open x verb v) (noun k))) c.requires.1
    (or_else (Ends ps) (Ends ps) (Ends ps) c.open_verb.result r.result (noun k) (search rules) _ (c.open_verb.ensures ps v st))
