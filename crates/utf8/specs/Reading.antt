-- What `well_formed` keeps of a reader's state: all but the bits and letters read so far.
use Rattle.std.specs.Prelude.{Option, Some, None}
use Rattle.utf8.specs.Utf8.{State, whole, more, bad}
use Rattle.utf8.specs.declared.Reading.{Reading}
use Rattle.utf8.specs.declared.Reading.TheVariants.{Whole, One, Two, Three, BehindE0, BehindED, BehindF0, BehindF4}

-- a state with no bits and no letter
abbrev pub bare : State → State
bare (whole c) = whole 0
bare (more k a lo hi) = more k 0 lo hi
bare bad = bad

abbrev pub state_of : Reading → State
state_of Whole = whole 0
state_of One = more 0 0 0x80 0xBF
state_of Two = more 1 0 0x80 0xBF
state_of Three = more 2 0 0x80 0xBF
state_of BehindE0 = more 1 0 0xA0 0xBF
state_of BehindED = more 1 0 0x80 0x9F
state_of BehindF0 = more 2 0 0x90 0xBF
state_of BehindF4 = more 2 0 0x80 0x8F

-- past what is not well formed a reader stands nowhere
abbrev pub standing : Option Reading → State
standing (Some r) = state_of r
standing None = bad
