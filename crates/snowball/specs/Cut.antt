-- A part of a text is replaced: what the text becomes, and where a place in it goes. Said of bytes and of letters alike.
use Rattle.std.specs.Prelude.{ℕ, ◌+◌, ◌-◌, List, ◌++◌, leb, ltb, take, drop}
use Rattle.definition.specs.Words.{pick}

-- xs with its part from bra to ket replaced by s
abbrev pub replaced : List ℕ → ℕ → ℕ → List ℕ → List ℕ
replaced xs bra ket s = take bra xs ++ s ++ drop ket xs

-- Where a place goes when n elements replace the part from bra to ket: one at ket or behind it moves with the text, one strictly inside goes to
-- bra, any other stays.
abbrev pub moved : ℕ → ℕ → ℕ → ℕ → ℕ
moved place bra ket n = pick (leb ket place) (place - (ket - bra) + n) (pick (ltb bra place) bra place)
