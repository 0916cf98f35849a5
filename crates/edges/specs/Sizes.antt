-- The sizes of the outputs that the edges are tried with.
use Rattle.std.specs.Prelude.{ℕ}

-- the largest output
abbrev pub largest : ℕ
largest = 396

-- the bytes of the largest output, and of four more behind it
abbrev pub space : ℕ
space = 400
