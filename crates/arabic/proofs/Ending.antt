-- The steps that cut an ending: one law over the table and the guards. Assumes nothing.
use mathlib.Core.Path.{◌≡◌, refl, sym, ap, ◌∙◌, subst}
use mathlib.Core.Bool.{Bool, true, false}
use mathlib.Core.List.{List, ◌++◌}
use mathlib.Core.Option.{Option, none, some}
use Prim.Native.Nat.{ℕ, ◌+◌, ◌-◌, ◌*◌, ◌^◌, ◌≤◌, ◌<◌}
use native.Mathlib.Omega.{arith}
use lib.ListN.{length, take, drop, length-append}
use lib.Seq.{take-length, take-take, take_at}
use Rattle.std.specs.Prelude.{Option as Maybe, Some, None, Ok, Err}
use Rattle.std.specs.Bool.{then_some}
use Rattle.definition.specs.Words.{Word, pick, ends_with}
use Rattle.definition.specs.Search.{row_at, longest, met, taken}
use Rattle.definition.specs.Tries.{Try}
use Rattle.definition.specs.Endings.{SuffixStep, suffix, Cutting, ending, cut_off, cut_by, cut}
use Rattle.definition.proofs.Match.{ends_split}
use Rattle.definition.proofs.Found.{taken_some}
use Rattle.utf8.specs.Utf8.{Scalars, encode}
use Rattle.utf8.specs.Places.{size}
use Rattle.utf8.specs.Spelt.{Encodes}
use Rattle.utf8.proofs.Text.{encode-append, scalars-left}
use Rattle.utf8.specs.Beside.{at_letters}
use Rattle.utf8.proofs.Beside.{at_letters-length, at_letters-joined}
use Rattle.utf8.proofs.Places.{size-append}
use Rattle.snowball.specs.declared.env.Env.{Env}
use Rattle.snowball.specs.declared.among.Found.{Found}
use Rattle.snowball.specs.Search.{Behind}
use Rattle.snowball.specs.Stands.{most_changes, Standing}
use Rattle.arabic.specs.declared.tried.Searched.{Searched}
use Rattle.arabic.specs.Changes.{suffix_number, cut_numbers, with_change}
use Rattle.arabic.specs.Endings.{at_end, Ends, Gives, place_by, ending_at, TakesEnding}
use Rattle.arabic.proofs.Guarded.{taken_is, taken_longest, some_none, some-same}
use Rattle.arabic.proofs.Standing.{encoded}
use Rattle.arabic.proofs.Noting.{noted_more, IsNoted, suffix_noted, is_noted}

-- ---- the row, and where the ending begins: b says whether the row's guard is met
pub takes_ending : (s : SuffixStep) (w : Word) (limit : ℕ) (f : Found) → Behind (suffix s).table w limit f → (b : Bool) → b ≡ met (suffix s).guards f.class (length w)
    → TakesEnding s w limit (record { row = f.row; outcome = then_some b f.cursor })
unfolding ending_at
takes_ending s w limit f h b e = record { row = h.finds.row; place = placed b ∙ sym (ap (place_by s limit) (taken_is (ends_with w) (suffix s) (length w) f.class h.finds.class b e)) }
  where
    placed : (b : Bool) → then_some b f.cursor ≡ place_by s limit (pick b (some (longest (ends_with w) (suffix s).table)) none)
    placed true = ap Some h.cursor
    placed false = refl

-- the letters u in front of a text, with the cursor at their end
module _ {current places : List ℕ} {limit cursor behind : ℕ} {t : Word} (ps : List ℕ) (u k : Word) (split : t ≡ u ++ k) (st : Standing current places limit cursor behind (at_end ps t)) where
  -- they keep their places
  front-placed : at_letters u places ≡ take (length u) ps
  front-placed =
      let l : length t ≡ length u + length k = ap length split ∙ length-append u k in
      sym (take_at (at_letters u places) (at_letters k (drop (size u) places)) (length u) (at_letters-length u places))
      ∙ ap (take (length u)) (sym (ap (λ (w : Word). at_letters w places) split ∙ at_letters-joined u k places) ∙ st.placed)
      ∙ take-take (length u) (length t) ps (omega arith)

  shortened : (place : ℕ) → place ≡ size u → Standing current places place place behind (at_end ps u)
  shortened place e =
      let l : size t ≡ size u + size k = ap size split ∙ size-append u k in
      record {
        scalars = scalars-left u k (subst Scalars split st.scalars);
        bytes =
            sym (take-take place limit current (omega (arith, st.sized)))
            ∙ ap (take place) (st.bytes ∙ ap encode split ∙ encode-append u k)
            ∙ take_at (encode u) (encode k) place (sym e);
        sized = e;
        within = omega (arith, st.sized, st.within);
        placed = front-placed;
        cursor = (omega arith, e ∙ ap size (sym (take-length u)));
        back = (omega arith, st.back.1);
      }

-- ---- the cut
-- what a cut at the place leaves; bra and ket do not matter
abbrev cut_at : Env → ℕ → Env
cut_at e place = record {
  cursor = place;
  limit = place;
  limit_backward = e.limit_backward;
  bra = place;
  ket = e.limit;
  made = e.made;
  current = e.current;
  places = e.places;
  changes = e.changes;
}

module _ (s : SuffixStep) (ps : List ℕ) (v : Cutting) (x : Env) (st : Ends ps x v) where
  abbrev t : Word
  t = v.text

  -- the row that is taken
  module _ (r : ℕ) (q : taken (ends_with v.text) (suffix s) (length v.text) ≡ some r) (place : ℕ) (at : place ≡ x.limit - size (row_at (suffix s).table r).letters) where
    key : Word
    key = (row_at (suffix s).table r).letters

    m : ℕ
    unfolding key
    m = length t - length key

    noted : IsNoted (suffix_number s) (suffix s).table r
    noted = is_noted (suffix_number s) (suffix s).table (suffix_noted s) r (taken_some (ends_with t) (suffix s) (length t) r q).inside

    split : t ≡ take m t ++ key
    unfolding m key
    split = ends_split t key (taken_some (ends_with t) (suffix s) (length t) r q).matches

    begins : place ≡ size (take m t)
    unfolding m key
    begins = omega (arith, at, ap size split ∙ size-append (take m t) key, st.stands.sized)

    inside : place + 2 ≤ x.limit
    unfolding m key
    inside = omega (arith, begins, ap size split ∙ size-append (take m t) key, st.stands.sized, noted.two_bytes)

  -- what is found in the text t of the environment
  pub found_in : (t : List ℕ) → t ≡ take x.limit x.current → (f : Searched (Maybe ℕ)) → ((w : Word) → Encodes t w → TakesEnding s w (length t) f) → TakesEnding s v.text x.limit f
  found_in t e f h = subst (λ (n : ℕ). TakesEnding s v.text n f) (ap length (e ∙ st.stands.bytes) ∙ sym st.stands.sized) (h v.text (encoded st.stands t e))

  -- where one is taken: f is what was found
  module _ (f : Searched (Maybe ℕ)) (tk : TakesEnding s v.text x.limit f) (place step : ℕ) (is : f.outcome ≡ Some place) (first : step ≡ 16 * suffix_number s) where
    row_taken : (r : ℕ) × ((taken (ends_with v.text) (suffix s) (length v.text) ≡ some r) × ((f.row ≡ r) × (place ≡ x.limit - size (row_at (suffix s).table r).letters)))
    unfolding ending_at
    row_taken = go (taken (ends_with v.text) (suffix s) (length v.text)) refl
      where
        go : (o : Option ℕ) → taken (ends_with v.text) (suffix s) (length v.text) ≡ o
            → (r : ℕ) × ((taken (ends_with v.text) (suffix s) (length v.text) ≡ some r) × ((f.row ≡ r) × (place ≡ x.limit - size (row_at (suffix s).table r).letters)))
        go none q = absurd (some_none (sym is ∙ tk.place ∙ ap (place_by s x.limit) q))
        go (some r) q = (r, (q, (tk.row ∙ taken_longest (ends_with v.text) (suffix s) (length v.text) r q, some-same (sym is ∙ tk.place ∙ ap (place_by s x.limit) q))))

    -- the change can be noted
    pub can_note : (x.made < most_changes) × (step + f.row < 2 ^ 8)
    can_note =
        let k = row_taken in
        let i = inside k.0 k.1.0 place k.1.1.1 in
        (omega (arith, st.room), omega (arith, (noted k.0 k.1.0 place k.1.1.1).byte, k.1.1.0))

    -- and where it is, the ending is cut
    pub cuts : length x.changes ≡ most_changes → (z : Env) → z ≡ with_change x (step + f.row) → Gives ps (Ok (cut_at z place)) (cut s v)
    unfolding cut cut_off ending m key
    cuts n z e =
        let k = row_taken in
        let r = k.0 in
        let q = k.1.0 in
        let p = k.1.1.1 in
        let number : step + f.row ≡ 16 * suffix_number s + r = omega (arith, k.1.1.0) in
        let more = noted_more x (cut_numbers v.cuts) (16 * suffix_number s + r) (omega (arith, can_note.0)) st.noted in
        subst (λ (y : Try Cutting). Gives ps (Ok (cut_at z place)) y) (ap (cut_by s v) (sym q))
        (subst (λ (y : Env). Ends ps (cut_at y place) (cut_off v (record { step = s; row = r }))) (sym (e ∙ ap (with_change x) number))
        (record {
          stands = shortened ps (take (m r q place p) t) (key r q place p) (split r q place p) st.stands place (begins r q place p);
          noted = record { made = more.made; changes = more.changes };
          room = omega (arith, inside r q place p, st.room);
        }))

  -- where none is taken
  pub keeps : None ≡ ending_at s v.text x.limit → Gives ps (Err x) (cut s v)
  unfolding cut ending_at
  keeps at = go (taken (ends_with v.text) (suffix s) (length v.text)) refl
    where
      go : (o : Option ℕ) → taken (ends_with v.text) (suffix s) (length v.text) ≡ o → Gives ps (Err x) (cut s v)
      go none q = subst (Gives ps (Err x)) (ap (cut_by s v) (sym q)) st
      go (some r) q = absurd (some_none (sym (at ∙ ap (place_by s x.limit) q)))
