-- Item 2 of document 01: each letter of the word once; rows of A_0 delete or replace it, and a replacement is not read again.
use Rattle.std.specs.Prelude.{ℕ, zero, suc, [], ◌∷◌, ◌++◌, eqb}
use Rattle.definition.specs.Letters
use Rattle.definition.specs.Words.{Word, pick, begins_with}
use Rattle.definition.specs.Tables.{Table, one, two, A_0}
use Rattle.definition.specs.Search.{row_at, longest}

-- What each class of A_0 gives. Classes 1 to 4 and 15 are not listed: their rows are deleted.
unfoldable pub gives : Table
gives =
    -- the digits 0 to 9
    one 0x30 5 ∷ one 0x31 6 ∷ one 0x32 7 ∷ one 0x33 8 ∷ one 0x34 9
    ∷ one 0x35 10 ∷ one 0x36 11 ∷ one 0x37 12 ∷ one 0x38 13 ∷ one 0x39 14
    -- letters
    ∷ one Letters.hamza 16 ∷ one Letters.alef_hamza_above 17 ∷ one Letters.alef_hamza_below 18
    ∷ one Letters.yeh_hamza 19 ∷ one Letters.alef_madda 20 ∷ one Letters.waw_hamza 21
    ∷ one Letters.alef 22 ∷ one Letters.beh 23 ∷ one Letters.teh_marbuta 24 ∷ one Letters.teh 25 ∷ one Letters.theh 26
    ∷ one Letters.jeem 27 ∷ one Letters.hah 28 ∷ one Letters.khah 29 ∷ one Letters.dal 30 ∷ one Letters.thal 31
    ∷ one Letters.reh 32 ∷ one Letters.zain 33 ∷ one Letters.seen 34 ∷ one Letters.sheen 35 ∷ one Letters.sad 36
    ∷ one Letters.dad 37 ∷ one Letters.tah 38 ∷ one Letters.zah 39 ∷ one Letters.ain 40 ∷ one Letters.ghain 41
    ∷ one Letters.feh 42 ∷ one Letters.qaf 43 ∷ one Letters.kaf 44 ∷ one Letters.lam 45 ∷ one Letters.meem 46
    ∷ one Letters.noon 47 ∷ one Letters.heh 48 ∷ one Letters.waw 49 ∷ one Letters.alef_maksura 50 ∷ one Letters.yeh 51
    -- the two letters of a ligature
    ∷ two Letters.lam Letters.alef 52 ∷ two Letters.lam Letters.alef_hamza_above 53
    ∷ two Letters.lam Letters.alef_hamza_below 54 ∷ two Letters.lam Letters.alef_madda 55
    ∷ []

-- the letters listed for a class; none if it is not listed
unfoldable pub listed_for : Table → ℕ → Word
listed_for [] k = []
listed_for (g ∷ gs) k = pick (eqb g.class k) g.letters (listed_for gs k)

-- what stands for the letter c whose row has the class k; class 0, no row, keeps it
unfoldable pub given : ℕ → ℕ → Word
given c zero = c ∷ []
given c (suc k) = listed_for gives (suc k)

unfoldable pub normal : ℕ → Word
normal c = given c (row_at A_0 (longest (begins_with (c ∷ [])) A_0)).class

unfoldable pub normalise : Word → Word
normalise [] = []
normalise (c ∷ w) = normal c ++ normalise w
