-- All parts of what a state leads to: its row, the faces of its region, its corner slots.
use mathlib.Core.Path.{◌≡◌, sym}
use mathlib.Core.Bool.{Bool, false}
use mathlib.Core.Logic.{◌⊎◌, inl, inr, ⊎_elim}
use mathlib.Core.List.{List}
use Prim.Native.Nat.{ℕ, ◌+◌, ◌*◌, ◌/◌, ◌%◌, ◌<◌}
use native.Mathlib.Omega.{arith}
use native.Mathlib.Numerals.{add-one}
use native.Mathlib.Nat.{div-add-mod', mod-lt}
use lib.ListN.{length, get_or}
use Rattle.theory.proofs.Pairs.{pair_left, pair_right}
use Rattle.limits.specs.Limits.{slot_count}
use Rattle.shapes.specs.Layout.{rows_in, faces_in, corners_in}
use Rattle.theory.specs.Adjacency.{Adjacent}
use Rattle.search.specs.Queue.{TakesAll, InList, row_of}
use Rattle.theory.proofs.Rows.{rows_length, rows_below}
use Rattle.search.proofs.Rows.{part_in, part_out, row_below}
use Rattle.search.proofs.Queue.{takes_then, takes_widen, takes_same, takes_reached}
use Rattle.marking.specs.Tables.{RegionTables, Successor, to_successor, to_face, to_touched}
use Rattle.marking.specs.Corners.{Touches}
use Rattle.shapes.proofs.Parts.{corners_long}
use Rattle.marking.proofs.Corners.{location_states}

-- the places of the faces of region i, for the states that begin at `base`
abbrev pub FacesOf : ℕ → List ℕ → ℕ → ℕ → ℕ → Type 0
FacesOf R shapes base i = InList (faces_in R shapes) base (get_or (rows_in R shapes) i 0) (get_or (rows_in R shapes) (i + 1) 0)

module _ {touch : Bool} {S R : ℕ} {shapes heights : List ℕ} (Z : RegionTables touch S R shapes heights) (p : ℕ) where
  pub region_below : p % R < R
  region_below = mod-lt p Z.some

  pub location_below : p < S → p / R * R < S
  location_below b = omega (arith, div-add-mod' p R)

  -- no state is told to lie on a closed walk, so none is touched
  pub touch_none : touch ≡ false → (q : ℕ) → Touches (corners_in R shapes) heights (p / R * R) (p % R) 0 q → ⊥
  touch_none e q t = omega (arith, t.is.closed, Z.none_closed e q)

  module _ {first targets : List ℕ} (q : ℕ) where
    pub face_part : FacesOf R shapes (p / R * R) (p % R) q → Successor R first targets shapes heights p q
    face_part t =
        let h = rows_below Z.faces.face (p % R) t.place region_below t.before in
        to_face (rw t.is at (sym (pair_left (p / R) R (get_or (faces_in R shapes) t.place 0) h)))
        (record {
          place = t.place;
          after = t.after;
          before = rw (add-one (p % R)) at t.before;
          is = rw t.is at (sym (pair_right (p / R) R (get_or (faces_in R shapes) t.place 0) h));
        })

    pub touch_part : Touches (corners_in R shapes) heights (p / R * R) (p % R) 0 q → Successor R first targets shapes heights p q
    touch_part t =
        let a = t.is in
        let h : a.slot / slot_count < R = omega (arith, a.below, corners_long R shapes Z.faces.long) in
        let e : q % R ≡ a.slot / slot_count = rw a.is at (pair_right (p / R) R (a.slot / slot_count) h) in
        let d : slot_count * (q % R) + a.slot % slot_count ≡ a.slot = omega arith in
        to_touched (rw a.is at (sym (pair_left (p / R) R (a.slot / slot_count) h)))
        (record {
          left = t.place;
          right = a.slot % slot_count;
          left_below = t.before;
          right_below = omega arith;
          same = sym (rw d a.holds);
        })
        a.closed

    pub lead_parts : Successor R first targets shapes heights p q → Adjacent first targets p q
        ⊎ (FacesOf R shapes (p / R * R) (p % R) q ⊎ Touches (corners_in R shapes) heights (p / R * R) (p % R) 0 q)
    lead_parts (to_successor t) = inl t
    lead_parts (to_face e t) =
        inr (inl (record {
          place = t.place;
          after = t.after;
          before = rw (add-one (p % R)) t.before;
          is = rw (e, t.is) (div-add-mod' q R);
        }))
    lead_parts (to_touched e t h) =
        let c : q % R < R = mod-lt q Z.some in
        let d : (slot_count * (q % R) + t.right) / slot_count ≡ q % R = omega (arith, t.right_below) in
        inr (inr (record {
          place = t.left;
          after = omega arith;
          before = t.left_below;
          is = record {
            slot = slot_count * (q % R) + t.right;
            below = omega (arith, t.right_below, corners_long R shapes Z.faces.long);
            holds = sym t.same;
            is = rw (e, d) (div-add-mod' q R);
            closed = h;
          };
        }))

  -- the faces stand in a row of the tables
  pub faces_below : p < S → (i : ℕ) → i < length (row_of (rows_in R shapes) (faces_in R shapes) (p % R))
      → p / R * R + get_or (row_of (rows_in R shapes) (faces_in R shapes) (p % R)) i 0 < S
  faces_below b i h = omega (arith, row_below Z.faces.face region_below i h, location_states Z (p / R) (location_below b))

  pub faces_taken : {x : ℕ} {f f' o o' : List ℕ} {n n' : ℕ}
      → TakesAll x (InList (row_of (rows_in R shapes) (faces_in R shapes) (p % R)) (p / R * R) 0 (length (row_of (rows_in R shapes) (faces_in R shapes) (p % R)))) f f' o o' n n'
      → TakesAll x (FacesOf R shapes (p / R * R) (p % R)) f f' o o' n n'
  faces_taken A =
      let e = rows_length Z.faces.face (p % R) region_below in
      let a = get_or (rows_in R shapes) (p % R) 0 in
      let b = get_or (rows_in R shapes) (p % R + 1) 0 in
      takes_same A (part_in (faces_in R shapes) a b e (λ v q. p / R * R + v ≡ q)) (part_out (faces_in R shapes) a b e (λ v q. p / R * R + v ≡ q))

  -- one after the other
  pub leads_all : {first targets : List ℕ} {x : ℕ} {f₀ f₁ f₂ f₃ o₀ o₁ o₂ o₃ : List ℕ} {n₀ n₁ n₂ n₃ : ℕ}
      → TakesAll x (Adjacent first targets p) f₀ f₁ o₀ o₁ n₀ n₁
      → TakesAll x (FacesOf R shapes (p / R * R) (p % R)) f₁ f₂ o₁ o₂ n₁ n₂
      → TakesAll x (Touches (corners_in R shapes) heights (p / R * R) (p % R) 0) f₂ f₃ o₂ o₃ n₂ n₃
      → TakesAll x (Successor R first targets shapes heights p) f₀ f₃ o₀ o₃ n₀ n₃
  leads_all A B D = record {
    takes = takes_then (takes_then (takes_widen A.takes (λ q t. to_successor t)) (takes_widen B.takes face_part))
        (takes_widen D.takes touch_part);
    covers = λ q l. ⊎_elim (λ t. takes_reached D.takes q (takes_reached B.takes q (A.covers q t)))
        (⊎_elim (λ t. takes_reached D.takes q (B.covers q t)) (λ t. D.covers q t)) (lead_parts q l);
  }
