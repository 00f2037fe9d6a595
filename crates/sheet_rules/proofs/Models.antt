-- The arrays that are filled for a model tell of its system.
use mathlib.Core.Path.{◌≡◌, refl, sym, ◌∙◌}
use mathlib.Core.Bool.{Bool, true}
use mathlib.Core.Logic.{◌↔◌}
use mathlib.Core.List.{List}
use Prim.Native.Nat.{ℕ, ◌+◌, ◌*◌, ◌/◌, ◌%◌, ◌≤◌, ◌<◌}
use native.Mathlib.Nat.{mod-lt, mul-div_cancel_left}
use lib.ListN.{length}
use borrow.Author.Tests.{lt-ltb}
use Rattle.theory.specs.Region.{regions, face, shares}
use Rattle.theory.specs.StateGraph.{region_count, location_of, region_of, system_of}
use Rattle.theory.specs.Sheet.{in_of, height_of, keeps}
use Rattle.theory.specs.Adjacency.{Holds}
use Rattle.shapes.specs.Layout.{rows_in, faces_in, corners_in, ShapesRoom, ShareCorner}
use Rattle.theory.proofs.Below.{bool_ext}
use Rattle.theory.proofs.Sheet.{keeps_law}
use Rattle.theory.proofs.StateGraph.{count_positive, allowed_state_law, beside_law}
use Rattle.model.specs.declared.Model.{Model}
use Rattle.model.specs.Model.{Lawful}
use Rattle.graph.specs.Plan.{automaton_of, system_of_model}
use Rattle.graph.specs.States.{states}
use Rattle.graph.proofs.Plan.{within, start_at}
use Rattle.graph.proofs.Models.{system_laws, face_allowed}
use Rattle.region_corners.specs.Corners.{region_at}
use Rattle.region_corners.specs.Faces.{face_of}
use Rattle.region_corners.specs.Shapes.{Shapes}
use Rattle.successors.specs.Flow.{regions_in}
use Rattle.successors.proofs.Room.{regions_limit}
use Rattle.sheet_rules.specs.Tables.{Slots, RuleSizes, RuleTables}
use Rattle.sheet_rules.specs.Rules.{Blank}
use Rattle.sheet_rules.proofs.Keeps.{location_room}
use Rattle.sheet_rules.proofs.Systems.{CornerTables, Tables, SheetKeeps, tables_sizes, array_law}
use Rattle.graph.proofs.Plan as plan

face_of_lem : (n M i j : ℕ) → i < length (regions n M) → j < length (regions n M) → face_of n M i j ≡ face (region_at n M i) (region_at n M j)
unfolding face_of
face_of_lem n M i j h k = rw (lt-ltb i (length (regions n M)) h, lt-ltb j (length (regions n M)) k)

-- "S is L times the count"
pub count_divides : (m : Model) → Lawful m → (S : ℕ) → S ≡ states m → S / m.locations ≡ regions_in m
count_divides m ok S e = rw e (mul-div_cancel_left (regions_in m) ok.locations.0)

module _ (m : Model) {shapes : List ℕ} (ok : Lawful m) (F : Shapes m.clocks m.ceiling shapes) where
  region_below : (p : ℕ) → p < states m → p % regions_in m < regions_in m
  region_below p b = mod-lt p (count_positive (automaton_of m) m.locations p b)

  -- the region of a state is that of its number
  region_face : (p q : ℕ) → p < states m → q < states m
      → face_of m.clocks m.ceiling (p % regions_in m) (q % regions_in m) ≡ face (region_of (automaton_of m) p) (region_of (automaton_of m) q)
  unfolding region_of region_count automaton_of
  region_face p q b c = face_of_lem m.clocks m.ceiling (p % regions_in m) (q % regions_in m) (region_below p b) (region_below q c)

  region_shares : (p q : ℕ) → p < states m → q < states m
      → (shares (region_of (automaton_of m) p) (region_of (automaton_of m) q) ≡ true) ↔ ShareCorner (corners_in (regions_in m) shapes) (p % regions_in m) (q % regions_in m)
  unfolding region_of region_count automaton_of
  region_shares p q b c = F.slots.shared (p % regions_in m) (q % regions_in m) (region_below p b) (region_below q c)

  slots_of : Slots (regions_in m) (corners_in (regions_in m) shapes)
  unfolding region_count automaton_of
  slots_of = record { long = F.slots.long; below = F.slots.below }

  faces_of : Holds (rows_in (regions_in m) shapes) (faces_in (regions_in m) shapes) (regions_in m) (face_of m.clocks m.ceiling)
  unfolding region_count automaton_of
  faces_of = F.face

  room_of : ShapesRoom (regions_in m) shapes
  unfolding region_count automaton_of
  room_of = record { few = regions_limit ok; long = F.long }

  pub model_corners : CornerTables (system_of_model m) m.locations (regions_in m) shapes
  unfolding system_of location_of automaton_of
  model_corners = record {
    states = refl;
    near = λ p q. (
      λ e.
          let ((a, c), (l, f)) = (beside_law (automaton_of m) m.locations (within m ok) shares p q).0 e in (
            (allowed_state_law (automaton_of m) m.locations p).1 a,
            (allowed_state_law (automaton_of m) m.locations q).1 c,
            l,
            (region_shares p q a.0 c.0).0 f,
          ),
      λ (a, c, l, f).
          let b = (allowed_state_law (automaton_of m) m.locations p).0 a in
          let d = (allowed_state_law (automaton_of m) m.locations q).0 c in
          (beside_law (automaton_of m) m.locations (within m ok) shares p q).1 ((b, d), (l, (region_shares p q b.0 d.0).1 f)),
    );
    slots = slots_of;
    room = room_of;
  }

module _ (m : Model) (R : ℕ) (is : R ≡ regions_in m) where
  pub some_regions : 0 < R
  some_regions = rw is (plan.some_regions m)

  -- the states of location l
  pub location_fits : (S : ℕ) → S ≡ states m → (l : ℕ) → l < m.locations → l * R + R ≤ S
  location_fits S e l b = location_room l m.locations R S (rw is e) b

module _ (m : Model) {first targets shapes : List ℕ} (F : RuleTables m first targets shapes) where
  pub model_tables : Tables (system_of_model m) m.locations (m.start * regions_in m) (regions_in m) m.kind first targets shapes
  unfolding system_of location_of automaton_of
  model_tables = record {
    corners = model_corners m F.lawful F.tables;
    starts = start_at m;
    forbidden = λ p b. refl;
    flow = F.flow.holds;
    facing = face_of m.clocks m.ceiling;
    face_lists = faces_of m F.lawful F.tables;
    face = λ p q. (
      λ e.
          let ((a, c), (l, f)) = (beside_law (automaton_of m) m.locations (within m F.lawful) face p q).0 e in
          let same = region_face m F.lawful F.tables p q a.0 c.0 in
          ((allowed_state_law (automaton_of m) m.locations p).1 a, c.0, l, same ∙ f),
      λ (a, c, l, f).
          let b = (allowed_state_law (automaton_of m) m.locations p).0 a in
          let g = sym (region_face m F.lawful F.tables p q b.0 c) ∙ f in
          let d = face_allowed m F.lawful p q c a l g in
          (beside_law (automaton_of m) m.locations (within m F.lawful) face p q).1
          ((b, (allowed_state_law (automaton_of m) m.locations q).0 d), (l, g)),
    );
  }

  -- ---- what the test of the rules needs and tells; R is the number of regions

  module _ (R : ℕ) (is : R ≡ regions_in m) where
    pub sizes_are : (S : ℕ) → S ≡ states m → RuleSizes S R first targets shapes
    unfolding system_of
    sizes_are S e = rw (is, e) (tables_sizes (system_of_model m) (system_laws m F.lawful) model_tables)

    pub keeps_told : (sheet : List ℕ) → Blank (system_of_model m) sheet → (b : Bool)
        → (b ≡ true) ↔ SheetKeeps sheet first targets shapes m.kind m.locations (m.start * R) R
        → b ≡ keeps (system_of_model m) (in_of sheet) (height_of sheet)
    keeps_told sheet blank b t =
        let Y = system_of_model m in
        let L = system_laws m F.lawful in
        let s = rw is at t in
        let law = array_law Y L model_tables sheet blank in
        bool_ext b (keeps Y (in_of sheet) (height_of sheet)) (λ e. (keeps_law Y L (in_of sheet) (height_of sheet)).1 (law.0 (s.0 e)))
        (λ e. s.1 (law.1 ((keeps_law Y L (in_of sheet) (height_of sheet)).0 e)))
