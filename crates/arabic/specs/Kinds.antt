-- The kind of a word as the code holds it: the Rust's three flags.
use Rattle.std.specs.Prelude.{Bool, true, false}
use Rattle.definition.specs.Kind.{Kind as WordKind, OPEN, DEFINED}
use Rattle.arabic.specs.declared.kind.Kind.{Kind}

abbrev pub flags : WordKind → Kind
flags OPEN = record { defined = false; verb = true; noun = true }
flags DEFINED = record { defined = true; verb = false; noun = true }

-- the kind by the Rust's b_is_verb
abbrev pub kind_by_verb : Bool → WordKind
kind_by_verb true = OPEN
kind_by_verb false = DEFINED

-- and by its b_is_defined
abbrev pub kind_of : Bool → WordKind
kind_of true = DEFINED
kind_of false = OPEN
