-- Between the items the cursor goes to the end of the text, and back to the front. Assumes nothing.
use mathlib.Core.Path.{◌≡◌, refl, sym, ap, ◌∙◌}
use native.Mathlib.Omega.{arith}
use mathlib.Core.List.{List}
use Prim.Native.Nat.{ℕ}
use lib.ListN.{length, take}
use lib.Seq.{take-length, take_all}
use Rattle.utf8.proofs.Beside.{at_letters-length}
use Rattle.definition.specs.Words.{Word}
use Rattle.definition.specs.Endings.{uncut}
use Rattle.definition.specs.Fronts.{Fronting, text}
use Rattle.definition.specs.Fronts as definition
use Rattle.utf8.specs.Utf8.{encode}
use Rattle.utf8.specs.Places.{size}
use Rattle.utf8.proofs.Places.{zero_byte}
use Rattle.snowball.specs.declared.env.Env.{Env}
use Rattle.snowball.specs.Chars.{started}
use Rattle.snowball.specs.Stands.{Standing, Stands}
use Rattle.arabic.specs.Endings.{at_end, left_of, Ends}
use Rattle.arabic.specs.Fronts.{front_places, AtFront, Passed}
use Rattle.arabic.proofs.Noting.{none_noted}

module _ (x : Env) (w : Word) (ps : List ℕ) where
  -- a place for each letter and no more
  pub all_places : Stands x (started w ps) → take (length w) ps ≡ ps
  all_places st = take_all (length w) ps (omega (arith, sym (ap length st.placed) ∙ at_letters-length w x.places))

  pub to_end : Stands x (started w ps) → Standing x.current x.places x.limit x.limit x.cursor (at_end ps w)
  to_end st = record {
    scalars = st.scalars;
    bytes = st.bytes;
    sized = st.sized;
    within = st.within;
    placed = st.placed ∙ sym (all_places st);
    cursor = (omega arith, st.sized ∙ ap size (sym (take-length w)));
    back = st.cursor;
  }

  -- where the endings begin none is cut
  pub none_cut : Stands x (at_end ps w) → x.made ≡ 0 → Ends ps x (uncut w)
  none_cut st z = record { stands = st; noted = none_noted x z; room = omega (arith, z, st.within) }

  pub to_front : Stands x (at_end ps w) → Standing x.current x.places x.limit x.limit_backward x.limit_backward (left_of ps w)
  to_front st = record { scalars = st.scalars; bytes = st.bytes; sized = st.sized; within = st.within; placed = st.placed; cursor = st.back; back = st.back }

  -- where the fronts begin none is changed
  pub at_start : Stands x (started w ps) → x.made ≡ 0 → AtFront ps x (definition.started w)
  unfolding definition.started
  at_start st z = record { stands = st; noted = none_noted x z; room = omega (arith, st.sized, st.within) }

-- the cursor of the environment e that the fronts began with
pub back_to : (e x : Env) (w : Word) (ps : List ℕ) (g : Fronting) → Stands e (started w ps) → Passed ps x g → Standing x.current x.places x.limit e.cursor x.limit_backward (started (text g) (front_places ps g))
unfolding encode
back_to e x w ps g s p =
    let st = p.state.stands in
    record {
      scalars = st.scalars;
      bytes = st.bytes;
      sized = st.sized;
      within = st.within;
      placed = st.placed;
      cursor = (omega arith, zero_byte w 0 e.cursor s.cursor refl);
      back = st.back;
    }
