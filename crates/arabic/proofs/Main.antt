-- What is shown of the letter loops beside the functions' contracts, each closed by the file that proves it. Assumes nothing.
use mathlib.Core.Path.{◌≡◌}
use mathlib.Core.Bool.{true}
use Prim.Native.Nat.{ℕ, ◌*◌, ◌≤◌}
use native.Mathlib.Omega.{arith}
use lib.ListN.{length, get_or}
use Rattle.utf8.specs.Utf8.{encode}
use Rattle.definition.specs.Words.{Word}
use Rattle.definition.specs.Normal.{normalise}
use Rattle.definition.specs.Finish.{finish}
use Rattle.snowball.specs.Stands.{work_size, longest_word}
use Rattle.arabic.specs.Rows.{classes, row_of, class_of, right_table}
use Rattle.arabic.proofs.Table.{right_table_lem, class_at, normalise_grows}
use Rattle.arabic.proofs.FinishedLetter.{finish-size}

-- the one test of A_0: 161 rows, whose keys rise, each of one letter and a class, with what each class gives
pub main_table : right_table ≡ true
main_table = right_table_lem

-- item 2 makes a word longer by a third at most: 255 bytes become at most 340
pub main_grows : (w : Word) → 3 * length (encode (normalise w)) ≤ 4 * length (encode w)
main_grows = normalise_grows

pub main_fits : (w : Word) → length (encode w) ≤ longest_word → length (encode (normalise w)) ≤ work_size
main_fits w h = omega (arith, normalise_grows w)

-- item 5 keeps the number of bytes
pub main_size : (w : Word) → length (encode (finish w)) ≡ length (encode w)
main_size = finish-size

-- the list of classes has the class of each letter at its row, also for a letter with no row
pub main_class : (c : ℕ) → get_or classes (row_of c) 0 ≡ class_of c
main_class = class_at
