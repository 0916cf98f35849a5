-- `suffix_nest::suffixes` meets its contract. Assumes nothing.
use mathlib.Core.Path.{◌≡◌, subst}
use Rattle.std.specs.Prelude.{Result, List, ℕ}
use Rattle.snowball.specs.declared.env.Env.{Env}
use Rattle.definition.specs.Words.{Word}
use Rattle.definition.specs.Tries.{if_failed}
use Rattle.definition.specs.Kind.{Kind, if_open}
use Rattle.definition.specs.Endings.{uncut, verb, noun, endings}
use Rattle.definition.specs.Tables.{A_21}
use Rattle.arabic.specs.Endings.{Ends, Gives}
use Rattle.arabic.specs.Kinds.{kind_of}
use Rattle.arabic.proofs.Nest.{ready_err, endings_is, maqsura-done, maqsura-failed}
use Rattle.arabic.proofs.suffix_nest.suffixes.Goals as goal

-- the answer r, where it is known as x
known : (ps : List ℕ) (k : Kind) (r x : Result Env Env) (w : Word) → r ≡ x → Gives ps r (if_failed (if_open k verb (uncut w)) (noun k)) → Gives ps x (endings k w)
known ps k r x w q g = subst (Gives ps x) (endings_is k w) (subst (λ (y : Result Env Env). Gives ps y (if_failed (if_open k verb (uncut w)) (noun k))) q g)

pub r_Suffix_All_alef_maqsura-changed-requires : goal.r_Suffix_All_alef_maqsura-changed-requires
r_Suffix_All_alef_maqsura-changed-requires c = let p = c.requires.0 in ready_err p.1.0 c.verb_or_noun.result _ (c.verb_or_noun.ensures p.1.0 p.0 p.1.1) c.in-Err.env c.in-Err.is

pub returns-in-Ok : goal.returns-in-Ok
unfolding A_21
returns-in-Ok c =
    let p = λ (ps : List ℕ) (w : Word) (st : Ends ps c.args.env (uncut w)). maqsura-done ps c.in-Ok.env _ (known ps (kind_of c.args.context.b_is_defined) _ _ w c.in-Ok.is (c.verb_or_noun.ensures ps (uncut w) st)) in
    record { stands = λ ps w st. (p ps w st).0; cut = λ ps w st. (p ps w st).1 }

pub returns-in-Err : goal.returns-in-Err
returns-in-Err c =
    let s = c.r_Suffix_All_alef_maqsura-changed in
    let p = λ (ps : List ℕ) (w : Word) (st : Ends ps c.args.env (uncut w)).
    maqsura-failed ps c.in-Err.env s.result _ (known ps (kind_of c.args.context.b_is_defined) _ _ w c.in-Err.is (c.verb_or_noun.ensures ps (uncut w) st)) (s.ensures.text ps) s.ensures.changes.0 s.ensures.changes.1 in
    record { stands = λ ps w st. (p ps w st).0; cut = λ ps w st. (p ps w st).1 }
