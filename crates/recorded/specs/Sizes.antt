-- The size of the line buffer.
use Rattle.std.specs.Prelude.{ℕ}

-- the bytes of a line that are kept: more than a word may have, so that an overlong word stays one
abbrev pub line_bytes : ℕ
line_bytes = 512
