-- The least state that a state leads to: its row, the faces of its region, its corner slots.
use mathlib.Core.Logic.{◌⊎◌, inl, inr, ⊎_elim}
use mathlib.Core.Path.{◌≡◌}
use mathlib.Core.Bool.{Bool}
use mathlib.Core.List.{List}
use Prim.Native.Nat.{ℕ, ◌+◌, ◌*◌, ◌/◌, ◌%◌}
use lib.ListN.{length, get_or}
use Rattle.shapes.specs.Layout.{rows_in, faces_in, corners_in}
use Rattle.theory.specs.Adjacency.{Adjacent}
use Rattle.theory.proofs.Rows.{rows_length}
use Rattle.search.specs.Queue.{InList, row_of}
use Rattle.search.proofs.Rows.{part_in, part_out}
use Rattle.search.specs.Least.{LeastOf, At}
use Rattle.search.proofs.Scan.{partly_first, partly_turn, partly_end, least_same}
use Rattle.marking.specs.Tables.{RegionTables, Successor, to_successor}
use Rattle.marking.specs.Corners.{Touches}
use Rattle.marking.proofs.Leading.{FacesOf, region_below, face_part, touch_part, lead_parts}

pub leads_least : {touch : Bool} {S R : ℕ} {first targets shapes heights distance : List ℕ} → RegionTables touch S R shapes heights
    → (p : ℕ) {y n a b c : ℕ}
    → LeastOf (At distance y (Adjacent first targets p)) n a
    → LeastOf (At distance y (FacesOf R shapes (p / R * R) (p % R))) a b
    → LeastOf (At distance y (Touches (corners_in R shapes) heights (p / R * R) (p % R) 0)) b c
    → LeastOf (At distance y (Successor R first targets shapes heights p)) n c
leads_least {touch} {S} {R} {first} {targets} {shapes} {heights} {distance} Z p {y} A B D =
    let I = partly_turn (partly_first {T = At distance y (Successor R first targets shapes heights p)}) A
    (λ q t. record { has = t.has; is = to_successor t.is })
    (λ q t. ⊎_elim (λ s. inl (record { has = t.has; is = s })) (λ s. inr (later q t.has s)) (lead_parts Z p q t.is)) in
    let J = partly_turn I B (λ q t. record { has = t.has; is = face_part Z p q t.is }) (λ q s. s) in
    partly_end (partly_turn J {Rest' = λ q. ⊥} D (λ q t. record { has = t.has; is = touch_part Z p q t.is }) (λ q t. inl t)) (λ q t. t)
  where
    later : (q : ℕ) → get_or distance q 0 ≡ y
        → FacesOf R shapes (p / R * R) (p % R) q ⊎ Touches (corners_in R shapes) heights (p / R * R) (p % R) 0 q
        → At distance y (FacesOf R shapes (p / R * R) (p % R)) q ⊎ At distance y (Touches (corners_in R shapes) heights (p / R * R) (p % R) 0) q
    later q e s = ⊎_elim (λ t. inl (record { has = e; is = t })) (λ t. inr (record { has = e; is = t })) s

-- the faces stand in a row of the tables
pub faces_least : {touch : Bool} {S R : ℕ} {shapes heights distance : List ℕ} → RegionTables touch S R shapes heights → (p : ℕ) {y a b : ℕ}
    → LeastOf (At distance y (InList (row_of (rows_in R shapes) (faces_in R shapes) (p % R)) (p / R * R) 0
    (length (row_of (rows_in R shapes) (faces_in R shapes) (p % R))))) a b
    → LeastOf (At distance y (FacesOf R shapes (p / R * R) (p % R))) a b
faces_least {R = R} {shapes = shapes} Z p A =
    let e = rows_length Z.faces.face (p % R) (region_below Z p) in
    let l = get_or (rows_in R shapes) (p % R) 0 in
    let h = get_or (rows_in R shapes) (p % R + 1) 0 in
    least_same A (λ q t. record { has = t.has; is = part_in (faces_in R shapes) l h e (λ v z. p / R * R + v ≡ z) q t.is })
    (λ q t. record { has = t.has; is = part_out (faces_in R shapes) l h e (λ v z. p / R * R + v ≡ z) q t.is })
