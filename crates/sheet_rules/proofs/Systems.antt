-- The rules by the arrays are the rules of the system that the arrays tell of.
use mathlib.Core.Path.{◌≡◌, sym, ◌∙◌}
use mathlib.Core.Bool.{Bool, true}
use mathlib.Core.Logic.{◌↔◌}
use mathlib.Core.List.{List}
use Prim.Native.Nat.{ℕ, zero, suc, ◌+◌, ◌*◌, ◌/◌, ◌%◌, ◌<◌}
use native.Mathlib.Omega.{arith}
use native.Mathlib.Numerals.{add-one}
use native.Mathlib.Nat.{div-add-mod', mod-lt, div-lt_iff_lt-mul}
use lib.ListN.{get_or}
use lib.Dec.{eqb}
use Rattle.theory.specs.System.{System, Laws}
use Rattle.theory.specs.Adjacency.{Holds}
use Rattle.theory.specs.Sheet.{SheetRules, in_of, height_of}
use Rattle.theory.proofs.Pairs.{pair_left, pair_right}
use Rattle.theory.proofs.Below.{true_unless_false}
use Rattle.shapes.specs.Layout.{rows_in, faces_in, corners_in, ShapesRoom, ShareCorner}
use Rattle.sheet_rules.specs.Tables.{Slots, RuleSizes}
use Rattle.sheet_rules.specs.Rules.{Blank, Touched, StateKeeps, LocationKeeps}
use Rattle.theory.proofs.Rows.{holds_rows, rows_below}
use Rattle.sheet_rules.proofs.Keeps.{in_odd, location_room}

-- ---- arrays that tell of a system: state p is region p % R of location p / R

-- the corners
pub record CornerTables (Y : System) (locations R : ℕ) (shapes : List ℕ) : Type 0 where
  pub states : Y.size ≡ locations * R
  -- 01: "shares a corner with an in-state of its location"
  pub near : (p q : ℕ) → (Y.near p q ≡ true)
      ↔ ((Y.allowed p ≡ true) × (Y.allowed q ≡ true) × (p / R ≡ q / R) × ShareCorner (corners_in R shapes) (p % R) (q % R))
  pub slots : Slots R (corners_in R shapes)
  pub room : ShapesRoom R shapes

-- all of them
pub record Tables (Y : System) (locations start R : ℕ) (kind first targets shapes : List ℕ) : Type 0 where
  pub corners : CornerTables Y locations R shapes
  pub starts : Y.start ≡ start
  -- 01: "kind (0 ordinary, 1 forbidden)", by location
  pub forbidden : (p : ℕ) → p < Y.size → Y.forbidden p ≡ eqb (get_or kind (p / R) 0) 1
  -- time and jump steps
  pub flow : Holds first targets Y.size Y.flow
  -- which regions are faces of which
  pub facing : ℕ → ℕ → Bool
  pub face_lists : Holds (rows_in R shapes) (faces_in R shapes) R facing
  -- 01: "Face: same location, to a face"
  pub face : (p q : ℕ) → (Y.face p q ≡ true)
      ↔ ((Y.allowed p ≡ true) × (q < Y.size) × (p / R ≡ q / R) × (facing (p % R) (q % R) ≡ true))

-- the rules for all locations
pub record SheetKeeps (sheet first targets shapes kind : List ℕ) (locations start R : ℕ) : Type 0 where
  -- "start in"
  pub start_in : in_of sheet start ≡ true
  pub states : (l : ℕ) → l < locations → LocationKeeps sheet first targets shapes (l * R) R (eqb (get_or kind l 0) 1)

-- ---- the laws

-- two states of one location
same_base : (R p q : ℕ) → p / R ≡ q / R → p / R * R + q % R ≡ q
same_base R p q e = rw e (div-add-mod' q R)

module _ (Y : System) (L : Laws Y) {locations R : ℕ} {shapes : List ℕ} (C : CornerTables Y locations R shapes) where
  -- ---- p is region p % R of location p / R

  some_region : (p : ℕ) → p < Y.size → 0 < R
  some_region p b = by R C.states
    where
      by : (r : ℕ) → Y.size ≡ locations * r → 0 < r
      by zero e = absurd (omega arith)
      by (suc r) e = omega arith

  location_of : (p : ℕ) → p < Y.size → p / R < locations
  location_of p b = (div-lt_iff_lt-mul (some_region p b)).1 (omega (arith, C.states))

  region_of : (p : ℕ) → p < Y.size → p % R < R
  region_of p b = mod-lt p (some_region p b)

  state_of : (l i : ℕ) → l < locations → i < R → l * R + i < Y.size
  state_of l i b h = omega (arith, location_room l locations R Y.size C.states b)

  module _ (sheet : List ℕ) (blank : Blank Y sheet) where
    -- an in-state is allowed
    in_allowed : (p : ℕ) → p < Y.size → in_of sheet p ≡ true → Y.allowed p ≡ true
    in_allowed p b t = true_unless_false (Y.allowed p) (λ o. omega (arith, blank p b o, in_odd sheet p t))

    -- an allowed state is touched where it is near an in-state
    module _ (l i : ℕ) (b : l < locations) (h : i < R) where
      pub touched_near : Y.allowed (l * R + i) ≡ true → Touched sheet (corners_in R shapes) (l * R) R i
          → (p : ℕ) × (in_of sheet p ≡ true) × (Y.near p (l * R + i) ≡ true)
      touched_near a w =
          let p = l * R + w.region in (
            p,
            w.inside,
            (C.near p (l * R + i)).1 (
              in_allowed p (state_of l w.region b w.below) w.inside,
              a,
              pair_left l R w.region w.below ∙ sym (pair_left l R i h),
              rw (pair_right l R w.region w.below, pair_right l R i h) w.shared,
            ),
          )

    pub near_touched : (p q : ℕ) → in_of sheet p ≡ true → Y.near p q ≡ true → Touched sheet (corners_in R shapes) (q / R * R) R (q % R)
    near_touched p q t n =
        let (a, _, e, s) = (C.near p q).0 n in
        record { region = p % R; below = region_of p (L.allowed_below p a); inside = rw (same_base R q p (sym e)) t; shared = s }

module _ (Y : System) (L : Laws Y) {locations start R : ℕ} {kind first targets shapes : List ℕ}
    (T : Tables Y locations start R kind first targets shapes) where
  pub tables_sizes : RuleSizes Y.size R first targets shapes
  tables_sizes =
      record { flow = holds_rows T.flow; room = T.corners.room; face = holds_rows T.face_lists; slots = T.corners.slots }

  module _ (sheet : List ℕ) (blank : Blank Y sheet) where
    module _ (K : SheetKeeps sheet first targets shapes kind locations start R) where
      state : (p : ℕ) → p < Y.size → StateKeeps sheet first targets shapes (p / R * R) R (eqb (get_or kind (p / R) 0) 1) (p % R)
      state p b = K.states (p / R) (location_of Y L T.corners p b) (p % R) (region_of Y L T.corners p b)

      keeps_rules : SheetRules Y (in_of sheet) (height_of sheet)
      keeps_rules = record {
        start_in = rw T.starts K.start_in;
        flow_in = λ p q t f.
            let b = L.allowed_below p (L.flow_joins p q f).0 in
            let e = div-add-mod' p R in
            (rw e at (state p b).flow_in) t q ((T.flow.edges p q b).1 f);
        face_in = λ p q t f.
            let b = L.allowed_below p (L.face_joins p q f).0 in
            let (_, _, e, g) = (T.face p q).0 f in
            let r = region_of Y L T.corners p b in
            rw (same_base R p q e)
            at ((state p b).face_in (rw (div-add-mod' p R) t) (q % R) ((T.face_lists.edges (p % R) (q % R) r).1 g));
        no_rise = λ p q f.
            let b = L.allowed_below p (L.flow_joins p q f).0 in
            (rw (div-add-mod' p R) at (state p b).no_rise) q ((T.flow.edges p q b).1 f);
        lower = λ p q x t o n f.
            let b = L.allowed_below q (L.flow_joins q x f).0 in
            (rw (div-add-mod' q R) at (state q b).lower) o (near_touched Y L T.corners sheet blank p q t n) x ((T.flow.edges q x b).1 f);
        none_forbidden = λ p b t. T.forbidden p b ∙ (state p b).ordinary (rw (div-add-mod' p R) t);
      }

    module _ (K : SheetRules Y (in_of sheet) (height_of sheet)) where
      keeps_state : (l i : ℕ) → l < locations → i < R → StateKeeps sheet first targets shapes (l * R) R (eqb (get_or kind l 0) 1) i
      keeps_state l i b h =
          let p = l * R + i in
          let c = state_of Y L T.corners l i b h in
          let e = pair_left l R i h in
          let d = pair_right l R i h in
          record {
            ordinary = λ t. sym (rw e at (T.forbidden p c)) ∙ K.none_forbidden p c t;
            face_in = λ t j a.
                let k : j < R = rw a.is at (rows_below (holds_rows T.face_lists) i a.place h (rw (add-one i) a.before)) in
                K.face_in p (l * R + j) t ((T.face p (l * R + j)).1 (
                  in_allowed Y L T.corners sheet blank p c t,
                  state_of Y L T.corners l j b k,
                  e ∙ sym (pair_left l R j k),
                  rw (d, pair_right l R j k) ((T.face_lists.edges i j h).0 a),
                ));
            flow_in = λ t q a. K.flow_in p q t ((T.flow.edges p q c).0 a);
            no_rise = λ q a. K.no_rise p q ((T.flow.edges p q c).0 a);
            lower = λ o w q a.
                let f = (T.flow.edges p q c).0 a in
                let (r, t, n) = touched_near Y L T.corners sheet blank l i b h (L.flow_joins p q f).0 w in
                K.lower r p q t o n f;
          }

      rules_keeps : SheetKeeps sheet first targets shapes kind locations start R
      rules_keeps = record { start_in = rw (← T.starts) K.start_in; states = λ l b i h. keeps_state l i b h }

    -- the linear test is the rules
    pub array_law : SheetKeeps sheet first targets shapes kind locations start R ↔ SheetRules Y (in_of sheet) (height_of sheet)
    array_law = (keeps_rules, rules_keeps)
