-- The tables of a model are what the marking asks for, with touch steps or without.
use Prim.Native.Nat.{ℕ, ◌+◌, ◌*◌, ◌/◌, ◌%◌, ◌<◌}
use native.Mathlib.Omega.{arith}
use native.Mathlib.Nat.{mod-lt, mul-le-mul_right}
use mathlib.Core.Path.{◌≡◌, refl, sym, ap, ◌∙◌}
use mathlib.Core.Bool.{Bool, true, false, ◌&&◌, false≢true}
use mathlib.Core.Logic.{◌↔◌}
use mathlib.Core.List.{List}
use lib.ListN.{length, get_or}
use Rattle.graph.proofs.Plan.{start_at, size-states, some_regions}
use Rattle.limits.specs.Limits.{max_states, point_count}
use Rattle.shapes.specs.Layout.{corners_in, ShareCorner}
use Rattle.shapes.proofs.Parts.{corners_long}
use Rattle.theory.specs.Below.{bit}
use Rattle.theory.specs.System.{System, on_closed_walk}
use Rattle.theory.specs.Height.{height}
use Rattle.theory.specs.Rounds.{rounds}
use Rattle.theory.specs.WithoutTouch.{with_touch}
use Rattle.theory.proofs.Rows.{holds_rows}
use Rattle.theory.specs.Region.{face, shares, regions}
use Rattle.theory.specs.StateGraph.{region_count, location_of, region_of, allowed_state, beside, system_of}
use Rattle.theory.proofs.Below.{and↔, eqb↔, ltb↔, test↔}
use Rattle.theory.proofs.System.{closed_walk_law}
use Rattle.theory.proofs.Walk.{walk_first}
use Rattle.theory.proofs.WithoutTouch.{touch_laws}
use Rattle.model.specs.declared.Model.{Model}
use Rattle.model.specs.Model.{Lawful}
use Rattle.graph.specs.Plan.{automaton_of, system_of_model}
use Rattle.graph.specs.States.{states}
use Rattle.graph.proofs.Models.{system_laws, face_allowed}
use Rattle.successors.specs.Flow.{regions_in, FlowLists}
use Rattle.successors.proofs.Room.{regions_limit, states_limit}
use Rattle.region_corners.specs.Faces.{face_of}
use Rattle.region_corners.specs.Shapes.{Shapes, SearchShapes}
use Rattle.survey.specs.Surveyed.{Heights, HeightsFor, Levelled}
use Rattle.tables.proofs.Lent.{regions_are}
use Rattle.marking.specs.Tables as marking

-- what tables say of the touch steps of a system
abbrev TouchLaw : System → ℕ → List ℕ → List ℕ → Type 0
TouchLaw Y R shapes heights =
    (p q : ℕ) → p < Y.size → q < Y.size → ((Y.near p q && on_closed_walk Y q) ≡ true)
    ↔ ((Y.allowed p ≡ true) × (p / R ≡ q / R) × ShareCorner (corners_in R shapes) (p % R) (q % R) × (get_or heights q 0 % 2 ≡ 1))

odd : (h : ℕ) (b : Bool) → ((2 * h + bit b) % 2 ≡ 1) ↔ (b ≡ true)
odd h true = (λ _. refl, λ _. omega arith)
odd h false = (λ e. absurd (omega arith), λ e. absurd (omega (arith, ap bit e)))

module _ (m : Model) (ok : Lawful m) where
  abbrev allowed : ℕ → Bool
  allowed = allowed_state (automaton_of m) m.locations

  -- the start is a state
  start_short : (r : ℕ) → r ≡ length (regions m.clocks m.ceiling) → 0 < r → m.start * r < states m
  start_short r e z =
      rw (e ∙ sym (regions_are m ok)) (let y = rw (e ∙ sym (regions_are m ok)) at z in omega (arith, mul-le-mul_right (regions_in m) ok.start))

  pub start_product : (r : ℕ) → r ≡ length (regions m.clocks m.ceiling) → m.start * r < max_states
  start_product r e =
      let z : 0 < r = rw (e ∙ sym (regions_are m ok)) (some_regions m) in
      omega (arith, start_short r e z, states_limit ok)

  -- ---- the steps within a location, by the regions' numbers

  same_location : (p q : ℕ) → p / regions_in m ≡ q / regions_in m → location_of (automaton_of m) p ≡ location_of (automaton_of m) q
  unfolding location_of
  same_location p q e = e

  region_below : (p : ℕ) → p % regions_in m < regions_in m
  region_below p = mod-lt p (some_regions m)

  -- two allowed states of one location, their regions joined by a test
  beside_law : (test : _) (p q : ℕ) → (beside (automaton_of m) m.locations test p q ≡ true)
      ↔ ((allowed p ≡ true) × (allowed q ≡ true) × (p / regions_in m ≡ q / regions_in m)
      × (test (region_of (automaton_of m) p) (region_of (automaton_of m) q) ≡ true))
  unfolding beside location_of
  beside_law test p q =
      let b = and↔ (and↔ (test↔ (allowed p)) (test↔ (allowed q)))
      (and↔ (eqb↔ (p / regions_in m) (q / regions_in m)) (test↔ (test (region_of (automaton_of m) p) (region_of (automaton_of m) q)))) in
      (λ e. let ((x, y), (z, w)) = b.0 e in (x, y, z, w), λ (x, y, z, w). b.1 ((x, y), (z, w)))

  face_law : (p q : ℕ) → (face (region_of (automaton_of m) p) (region_of (automaton_of m) q) ≡ true)
      ↔ (face_of m.clocks m.ceiling (p % regions_in m) (q % regions_in m) ≡ true)
  unfolding region_of face_of automaton_of region_count
  face_law p q =
      let R = length (regions m.clocks m.ceiling) in
      let b = and↔ (ltb↔ (p % R) R) (and↔ (ltb↔ (q % R) R) (test↔ _)) in
      (λ e. b.1 (region_below p, (region_below q, e)), λ e. (b.0 e).1.1)

  face_steps : (p q : ℕ) → (beside (automaton_of m) m.locations face p q ≡ true)
      ↔ ((allowed p ≡ true) × (q < states m) × (p / regions_in m ≡ q / regions_in m)
      × (face_of m.clocks m.ceiling (p % regions_in m) (q % regions_in m) ≡ true))
  unfolding system_of
  face_steps p q =
      let b = beside_law face p q in (
        λ e. let (x, y, z, w) = b.0 e in (x, (system_laws m ok).allowed_below q y, z, (face_law p q).0 w),
        λ (x, y, z, w). let f = (face_law p q).1 w in b.1 (x, face_allowed m ok p q y x (same_location p q z) f, z, f),
      )

  -- a state on a closed walk is allowed
  closed_allowed : (q : ℕ) → on_closed_walk (system_of_model m) q ≡ true → allowed q ≡ true
  unfolding system_of
  closed_allowed q c =
      let (x, l, w) = (closed_walk_law (system_of_model m) (system_laws m ok) q).0 c in
      ((system_laws m ok).flow_joins q x (walk_first w).0).0

  module _ {shapes : List ℕ} (S : Shapes m.clocks m.ceiling shapes) where
    shares_law : (p q : ℕ) → (shares (region_of (automaton_of m) p) (region_of (automaton_of m) q) ≡ true)
        ↔ ShareCorner (corners_in (regions_in m) shapes) (p % regions_in m) (q % regions_in m)
    unfolding region_of automaton_of region_count
    shares_law p q = S.slots.shared (p % regions_in m) (q % regions_in m) (region_below p) (region_below q)

    touch_steps : {heights : List ℕ} → Heights m heights → TouchLaw (system_of_model m) (regions_in m) shapes heights
    unfolding system_of
    touch_steps H p q i j =
        let b = and↔ (beside_law shares p q) (test↔ (on_closed_walk (system_of_model m) q)) in
        let o = rw (← H.are q j) at (odd (height (system_of_model m) q) (on_closed_walk (system_of_model m) q)) in (
          λ e. let ((x, y, z, w), c) = b.0 e in (x, z, (shares_law p q).0 w, o.1 c),
          λ (x, z, w, c). let v = o.0 c in b.1 ((x, closed_allowed q v, z, (shares_law p q).1 w), v),
        )

  -- without touch there are none, and heights at zero tell of none
  touch_law : {shapes heights : List ℕ} (touch : Bool) → SearchShapes touch m.clocks m.ceiling shapes → HeightsFor touch m heights
      → TouchLaw (with_touch touch (system_of_model m)) (regions_in m) shapes heights
  unfolding with_touch
  touch_law true K H = touch_steps (K.linked refl).shapes (H.are refl)
  touch_law false K H = λ p q i j. (λ e. absurd (false≢true e), λ (x, z, w, c). absurd (omega (arith, H.none refl q)))

  -- ---- what the marking asks for, reads and finds

  module _ (first targets : List ℕ) (F : FlowLists m first targets) {touch : Bool} (shapes heights : List ℕ)
      (K : SearchShapes touch m.clocks m.ceiling shapes) (H : HeightsFor touch m heights) where
    marking_shape : marking.SearchTables touch (states m) (regions_in m) first targets shapes heights
    unfolding automaton_of region_count
    marking_shape =
        record {
          flow = holds_rows F.holds;
          tables =
              record {
                some = some_regions m;
                states = states_limit ok;
                locations = m.locations;
                whole = refl;
                faces =
                    record {
                      regions = regions_limit ok;
                      long = K.faces.long;
                      face = holds_rows K.faces.face;
                    };
                corner_below = λ i s b. (K.linked i).shapes.slots.below s (rw (corners_long (regions_in m) shapes K.faces.long) b);
                chains = λ i. (K.linked i).chains;
                heights_long = H.long;
                none_closed = λ i q. let z = H.none i q in omega arith;
              };
        }

    marking_tables : marking.Tables (with_touch touch (system_of_model m)) (m.start * regions_in m) (regions_in m) first targets shapes heights
    unfolding with_touch system_of
    marking_tables =
        record {
          starts = start_at m;
          flow = F.holds;
          face_of = face_of m.clocks m.ceiling;
          facing = rw (regions_are m ok) K.faces.face;
          face = face_steps;
          touch = touch_law touch K H;
        }

    module _ (r : ℕ) (e : r ≡ length (regions m.clocks m.ceiling)) where
      count_is : r ≡ regions_in m
      count_is = e ∙ sym (regions_are m ok)

      -- what the marking asks for
      pub asked : (distance queue : List ℕ) (flags : ℕ) → length distance ≡ states m → length queue ≡ states m → flags ≡ m.locations * point_count
          → (m.start * r < length distance) × (length queue ≡ length distance)
          × marking.SearchTables touch (length distance) r first targets shapes heights × marking.Spots (length distance) r flags
      asked distance queue flags f g i =
          let spots : marking.Spots (states m) (regions_in m) flags = record { locations = m.locations; states = refl; spots = i } in
          rw (count_is, f) (start_short (regions_in m) (regions_are m ok) (some_regions m), g, marking_shape, spots)

      -- the tables that it reads
      pub tables_for : marking.Tables (with_touch touch (system_of_model m)) (m.start * r) r first targets shapes heights
      tables_for = rw count_is marking_tables

      -- what it finds
      pub levelled_by : (start : ℕ) → start ≡ m.start * r → (distance queue : List ℕ) (n : ℕ) → length distance ≡ states m
          → marking.Found start r first targets shapes heights distance queue n
          → Levelled touch m heights distance queue × (n ≡ rounds (with_touch touch (system_of_model m)))
      unfolding with_touch
      levelled_by start s distance queue n long found =
          let Y = with_touch touch (system_of_model m) in
          let laws = touch_laws touch (system_of_model m) (system_laws m ok) in
          let tables : marking.Tables Y start r first targets shapes heights = rw s tables_for in
          let size = size-states m ∙ sym long in (
            record { surveyed = record { heights = H; distances = found.distances Y laws size tables }; order = found.order },
            found.counted Y laws size tables,
          )
