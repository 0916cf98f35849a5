-- The Arabic letters by their names in the Unicode charts, where each name follows the words ARABIC LETTER.
-- Source: the Unicode Standard, version 14.0, block Arabic (0600 to 06FF).
use Rattle.std.specs.Prelude.{ℕ}

abbrev pub hamza : ℕ
hamza = 0x621

-- ALEF WITH MADDA ABOVE
abbrev pub alef_madda : ℕ
alef_madda = 0x622

-- ALEF WITH HAMZA ABOVE
abbrev pub alef_hamza_above : ℕ
alef_hamza_above = 0x623

-- WAW WITH HAMZA ABOVE
abbrev pub waw_hamza : ℕ
waw_hamza = 0x624

-- ALEF WITH HAMZA BELOW
abbrev pub alef_hamza_below : ℕ
alef_hamza_below = 0x625

-- YEH WITH HAMZA ABOVE
abbrev pub yeh_hamza : ℕ
yeh_hamza = 0x626

abbrev pub alef : ℕ
alef = 0x627

abbrev pub beh : ℕ
beh = 0x628

abbrev pub teh_marbuta : ℕ
teh_marbuta = 0x629

abbrev pub teh : ℕ
teh = 0x62A

abbrev pub theh : ℕ
theh = 0x62B

abbrev pub jeem : ℕ
jeem = 0x62C

abbrev pub hah : ℕ
hah = 0x62D

abbrev pub khah : ℕ
khah = 0x62E

abbrev pub dal : ℕ
dal = 0x62F

abbrev pub thal : ℕ
thal = 0x630

abbrev pub reh : ℕ
reh = 0x631

abbrev pub zain : ℕ
zain = 0x632

abbrev pub seen : ℕ
seen = 0x633

abbrev pub sheen : ℕ
sheen = 0x634

abbrev pub sad : ℕ
sad = 0x635

abbrev pub dad : ℕ
dad = 0x636

abbrev pub tah : ℕ
tah = 0x637

abbrev pub zah : ℕ
zah = 0x638

abbrev pub ain : ℕ
ain = 0x639

abbrev pub ghain : ℕ
ghain = 0x63A

abbrev pub feh : ℕ
feh = 0x641

abbrev pub qaf : ℕ
qaf = 0x642

abbrev pub kaf : ℕ
kaf = 0x643

abbrev pub lam : ℕ
lam = 0x644

abbrev pub meem : ℕ
meem = 0x645

abbrev pub noon : ℕ
noon = 0x646

abbrev pub heh : ℕ
heh = 0x647

abbrev pub waw : ℕ
waw = 0x648

abbrev pub alef_maksura : ℕ
alef_maksura = 0x649

abbrev pub yeh : ℕ
yeh = 0x64A
