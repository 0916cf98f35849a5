-- Bytes that are written into a part of a list. Assumes nothing.
use mathlib.Core.Path.{◌≡◌, ap}
use Prim.Native.Nat.{ℕ, ◌≤◌, ◌<◌}
use lib.ListN.{length}
use Rattle.utf8.specs.Utf8.{encode1}
use Rattle.utf8.proofs.Encoding.{encode1_2}

-- ---- how long a letter is

pub size_2 : (c : ℕ) → 0x80 ≤ c → c < 0x800 → length (encode1 c) ≡ 2
size_2 c h k = ap length (encode1_2 c h k)
