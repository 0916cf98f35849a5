-- The Rust's context: how it starts, and how the steps change its flags.
use Rattle.std.specs.Prelude.{◌≡◌, Bool, true, false}
use Rattle.definition.specs.Words.{pick}
use Rattle.arabic.specs.declared.context.Context.{Context}
use Rattle.arabic.specs.declared.kind.Kind.{Kind}
use Rattle.arabic.specs.Kinds.{kind_by_verb, kind_of}

-- a noun and a verb, not defined
abbrev pub started : Context
started = record { b_is_defined = false; b_is_verb = true; b_is_noun = true; i_word_len = 0 }

-- the context with the flags of a kind
abbrev pub flagged : Context → Kind → Context
flagged c k = record { b_is_defined = k.defined; b_is_verb = k.verb; b_is_noun = k.noun; i_word_len = c.i_word_len }

-- the context after the verb's Step4: where it is found, a verb and no noun
abbrev pub made_verb : Context → Bool → Context
made_verb c found = record { b_is_defined = c.b_is_defined; b_is_verb = pick found true c.b_is_verb; b_is_noun = pick found false c.b_is_noun; i_word_len = c.i_word_len }

-- Both flags that the steps test are those of one kind. No field of the context can promise it: the verb's Step4 may make a defined word a verb.
abbrev pub OneKind : Context → Type 0
OneKind c = kind_by_verb c.b_is_verb ≡ kind_of c.b_is_defined
