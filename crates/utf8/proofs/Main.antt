-- What is shown of UTF-8: the main theorems of this crate, each closed by the file that proves it. Assumes nothing.
use mathlib.Core.Path.{◌≡◌}
use mathlib.Core.Bool.{true, not}
use mathlib.Core.List.{List, [], ◌∷◌, ◌++◌}
use mathlib.Core.Option.{some}
use Prim.Native.Nat.{ℕ}
use Rattle.definition.specs.Words.{Word, every, begins_with, ends_with}
use Rattle.utf8.specs.Samples.{accepted, refused}
use Rattle.utf8.specs.Utf8.{Scalars, encode, decode, well_formed}
use Rattle.utf8.specs.Places.{starts_letter}
use Rattle.utf8.proofs.Encoding.{decode-encode}
use Rattle.utf8.proofs.Text.{sound, well_formed_text, text_well_formed, encode_injective}
use Rattle.utf8.proofs.Matches.{front_bytes, end-bytes}
use Rattle.utf8.proofs.Cuts.{parts-formed}
use Rattle.utf8.proofs.Samples.{edges, one_letter}

-- every list of scalar values decodes from its encoding, and its encoding is well formed
pub main_decodes : (cs : List ℕ) → Scalars cs → decode (encode cs) ≡ some cs
main_decodes = decode-encode

pub main_well_formed : (cs : List ℕ) → Scalars cs → well_formed (encode cs) ≡ true
main_well_formed = text_well_formed

-- what decodes is the encoding of what it decodes to; well-formed bytes are the encoding of some list, and of one only
pub main_sound : (bs cs : List ℕ) → decode bs ≡ some cs → Scalars cs × (bs ≡ encode cs)
main_sound = sound

pub main_text : (bs : List ℕ) → well_formed bs ≡ true → (cs : List ℕ) × Scalars cs × (bs ≡ encode cs)
main_text = well_formed_text

pub main_one : (u v : List ℕ) → Scalars u → Scalars v → encode u ≡ encode v → u ≡ v
main_one = encode_injective

-- letters match in front, or at the end, just where their bytes do
pub main_front : (w key : Word) → Scalars w → Scalars key → begins_with (encode w) (encode key) ≡ begins_with w key
main_front = front_bytes

pub main_end : (w key : Word) → Scalars w → Scalars key → ends_with (encode w) (encode key) ≡ ends_with w key
main_end = end-bytes

-- well-formed bytes cut in two: each part is well formed if a letter starts at the cut or the bytes end there, and neither if not
pub main_cut : (u v : List ℕ) → well_formed (u ++ v) ≡ true → (well_formed u ≡ starts_letter v) × (well_formed v ≡ starts_letter v)
main_cut = parts-formed

-- the edges of well-formedness: what is accepted, and what is refused
pub main_edges : (every well_formed accepted ≡ true) × (every (λ bs. not (well_formed bs)) refused ≡ true)
main_edges = edges

-- one letter encoded, and one decoded
pub main_letters : (encode (0xFEFB ∷ []) ≡ 0xEF ∷ 0xBB ∷ 0xBB ∷ []) × (decode (0xD8 ∷ 0xA7 ∷ []) ≡ some (0x627 ∷ []))
main_letters = one_letter
