-- 02: with joint resets the marked set is "the smallest set that holds the start and is closed under time, jump and face", on numbered states: marks,
-- verdict and sheet of the system without touch are those of the system with it.
use Prim.Native.Nat.{ℕ, ◌<◌}
use mathlib.Core.Path.{◌≡◌, subst}
use mathlib.Core.Bool.{false}
use mathlib.Core.Logic.{◌↔◌}
use Rattle.theory.specs.System.{System, Laws}
use Rattle.theory.specs.Marked.{MarkedIn, begin, onward, by_flow, by_face, marks, unsafe}
use Rattle.theory.specs.Sheet.{number, our_sheet}
use Rattle.theory.specs.WithoutTouch.{with_touch, without_touch}
use Rattle.theory.specs.Automaton.{Automaton, Capped}
use Rattle.theory.specs.Region.{Region, face}
use Rattle.theory.specs.RegionGraph.{Allowed}
use Rattle.theory.specs.StateGraph.{Within, state_count, location_of, region_of, number_of, system_of}
use Rattle.theory.proofs.Below.{bool_ext, tab_same}
use Rattle.theory.proofs.Region.{face_law}
use Rattle.theory.proofs.StateGraph.{number_of_parts, flow_target, flow_allowed, is_flow, is_beside, start_allowed, system_laws}
use Rattle.theory.proofs.StateMarked.{marked_law}
use Rattle.theory.proofs.Marked.{marks_is, is_marks, unsafe_is, is_unsafe, marked_allowed}
use Rattle.theory.proofs.WithoutTouch.{touch_laws, touch_marked, touch_height}
use Rattle.robust.specs.Untouched.{Untouched, JointResets}
use Rattle.robust.proofs.Joint.{joint_marked_lem}

module _ (m : Automaton) (locations : ℕ) (W : Within m locations) (kept : Capped m) where
  abbrev Y : System
  Y = system_of m locations

  laws : Laws Y
  laws = system_laws m locations W kept

  untouched_numbers : {l : ℕ} {xs : Region} → Untouched m l xs → (l < locations) × Allowed m l xs × MarkedIn (without_touch Y) (number_of m l xs)
  unfolding system_of with_touch
  untouched_numbers Untouched.begin = (W.start, start_allowed kept m.start, begin)
  untouched_numbers (Untouched.flow c f) =
      let (b, a, n) = untouched_numbers c in
      (flow_target m locations W b f, (flow_allowed m locations W f).1, onward n (by_flow (is_flow m locations W b f)))
  untouched_numbers (Untouched.face {xs = xs} {ys = ys} c a d f) =
      let (b, _, n) = untouched_numbers c in
      (b, d, onward n (by_face (is_beside m locations W face b a d ((face_law xs ys).1 f))))

  module _ (joint : JointResets m) where
    pub joint_states : (p : ℕ) → p < state_count m locations → MarkedIn Y p ↔ MarkedIn (without_touch Y) p
    unfolding system_of with_touch
    joint_states p h = (
      λ c.
          let u = (joint_marked_lem kept joint (location_of m p) (region_of m p)).0 ((marked_law m locations W kept p h).0 c) in
          subst (λ n. MarkedIn (without_touch Y) n) (number_of_parts m locations p h) (untouched_numbers u).2,
      touch_marked false Y laws,
    )

    pub joint_marks : (p : ℕ) → p < state_count m locations → marks (without_touch Y) p ≡ marks Y p
    joint_marks p h =
        bool_ext (marks (without_touch Y) p) (marks Y p)
        (λ t. is_marks Y laws p ((joint_states p h).1 (marks_is (without_touch Y) (touch_laws false Y laws) p t)))
        (λ t. is_marks (without_touch Y) (touch_laws false Y laws) p ((joint_states p h).0 (marks_is Y laws p t)))

    pub joint_verdict : unsafe (without_touch Y) ≡ unsafe Y
    unfolding with_touch system_of
    joint_verdict =
        bool_ext (unsafe (without_touch Y)) (unsafe Y)
        (λ t. let (s, c, x) = unsafe_is (without_touch Y) (touch_laws false Y laws) t in is_unsafe Y laws (s, touch_marked false Y laws c, x))
        (λ t.
        let (s, c, x) = unsafe_is Y laws t in
        let b = laws.allowed_below s (marked_allowed Y laws c) in
        is_unsafe (without_touch Y) (touch_laws false Y laws) (s, (joint_states s b).0 c, x))

    pub joint_sheet : our_sheet (without_touch Y) ≡ our_sheet Y
    unfolding our_sheet number with_touch system_of
    joint_sheet =
        tab_same (state_count m locations) (number (without_touch Y)) (number Y)
        (λ p b. rw (touch_height false Y laws p b, joint_marks p b))
