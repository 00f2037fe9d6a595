-- What the tables lead to is what the steps of the system lead to, so the search finds its distances.
use mathlib.Core.Path.{◌≡◌, sym, ap, ◌∙◌}
use mathlib.Core.Bool.{Bool, true}
use mathlib.Core.List.{List}
use Prim.Native.Nat.{ℕ, ◌+◌, ◌-◌, ◌*◌, ◌/◌, ◌%◌, ◌≤◌, ◌<◌}
use native.Mathlib.Omega.{arith}
use native.Mathlib.Nat.{div-add-mod', mod-lt}
use lib.ListN.{length, get_or}
use lib.Dec.{ltb}
use Rattle.theory.specs.Below.{count}
use Rattle.theory.specs.System.{System, Laws, on_closed_walk}
use Rattle.theory.specs.Marked.{StepIn, by_flow, by_face, by_touch, begin, step, marks}
use Rattle.theory.specs.Levels.{distance_to}
use Rattle.theory.specs.Rounds.{rounds}
use Rattle.theory.proofs.Below.{and_intro, and_left, and_right}
use Rattle.theory.proofs.System.{start_below, flow_inside, closed_walk_is, is_closed_walk}
use Rattle.theory.proofs.Marked.{step_is, is_step, step_inside, marked_on, marked_allowed}
use Rattle.theory.proofs.Levels.{far_walk, mark-marks}
use Rattle.search.specs.Queue.{reached_count}
use Rattle.search.proofs.Count.{count_same}
use Rattle.search.proofs.Rounds.{searched_all, searched_marks, searched_rounds}
use Rattle.marking.specs.Tables.{Tables, RegionTables, Successor, to_successor, to_face, to_touched, Distances, Found}
use Rattle.marking.proofs.Corners.{location_states}
use Rattle.marking.proofs.Leading.{location_below}
use Rattle.search.specs.Rounds as levels

module _ (Y : System) (L : Laws Y) {touch : Bool} {start R : ℕ} {first targets shapes heights : List ℕ}
    (Z : RegionTables touch Y.size R shapes heights) (T : Tables Y start R first targets shapes heights) where
  -- a state of the same location
  same_below : (p q : ℕ) → p < Y.size → p / R ≡ q / R → q < Y.size
  same_below p q b e =
      let d : p / R * R + q % R ≡ q = rw e (div-add-mod' q R) in
      omega (arith, location_states Z (p / R) (location_below Z p b), mod-lt q Z.some)

  leads_step : (p q : ℕ) → Y.allowed p ≡ true → Successor R first targets shapes heights p q → step Y p q ≡ true
  leads_step p q a (to_successor t) = is_step Y L p q (by_flow ((T.flow.edges p q (L.allowed_below p a)).0 t))
  leads_step p q a (to_face e t) =
      let b = L.allowed_below p a in
      is_step Y L p q (by_face ((T.face p q).1 (a, same_below p q b e, e, (T.facing.edges (p % R) (q % R) (mod-lt p Z.some)).0 t)))
  leads_step p q a (to_touched e t h) =
      let b = L.allowed_below p a in
      let both = (T.touch p q b (same_below p q b e)).1 (a, e, t, h) in
      is_step Y L p q
      (by_touch (and_left (Y.near p q) (on_closed_walk Y q) both) (closed_walk_is Y L q (and_right (Y.near p q) (on_closed_walk Y q) both)))

  step_leads : (p q : ℕ) → step Y p q ≡ true → Successor R first targets shapes heights p q
  step_leads p q s = by (step_is Y L p q s)
    where
      by : StepIn Y p q → Successor R first targets shapes heights p q
      by (by_flow e) = to_successor ((T.flow.edges p q (flow_inside Y L p q e).0).1 e)
      by (by_face e) = let (a, b, l, f) = (T.face p q).0 e in to_face l ((T.facing.edges (p % R) (q % R) (mod-lt p Z.some)).1 f)
      by (by_touch e w) =
          let (a, c) = L.near_joins p q e in
          let both = and_intro (Y.near p q) (on_closed_walk Y q) e (is_closed_walk Y L q w) in
          let (_, l, s, h) = (T.touch p q (L.allowed_below p a) (L.allowed_below q c)).0 both in
          to_touched l s h

  -- a state that steps lead to is marked, so it is allowed
  far_allowed : (p : ℕ) → distance_to Y.size (step Y) Y.start p < Y.size → Y.allowed p ≡ true
  far_allowed p b =
      let (l, w, _) = far_walk Y.size (step Y) (step_inside Y L) Y.start (start_below Y L) p b in
      marked_allowed Y L (marked_on Y L begin w)

  pub steps_agree : levels.Agrees Y.size (step Y) start (Successor R first targets shapes heights)
  steps_agree = rw (← T.starts) (record {
    inside = step_inside Y L;
    begins = start_below Y L;
    to = λ p q b t. leads_step p q (far_allowed p b) t;
    from = step_leads;
  })

-- the marked states are those with a number above 0
pub count-marks : (Y : System) → Laws Y → (distance : List ℕ) → Distances Y distance → reached_count distance ≡ count Y.size (marks Y)
count-marks Y L distance D =
    rw D.long (count_same Y.size (λ p. ltb 0 (get_or distance p 0)) (marks Y) (λ p b. ap (ltb 0) (D.is p b) ∙ mark-marks Y L p))

-- no state at x: all are found
module _ {touch : Bool} {start R x lo hi : ℕ} {first targets shapes heights distance queue : List ℕ}
    (Z : RegionTables touch (length distance) R shapes heights)
    (I : levels.Searched (Successor R first targets shapes heights) start x lo hi distance queue) (over : hi ≤ lo) where
  module _ (Y : System) (L : Laws Y) (e : Y.size ≡ length distance) (T : Tables Y start R first targets shapes heights) where
    agree : levels.Agrees (length distance) (step Y) start (Successor R first targets shapes heights)
    agree = rw (← e) (steps_agree Y L (rw (← e) at Z) T)

    found : Distances Y distance
    found = record { long = sym e; is = rw (← e, ← T.starts) at (searched_marks I over (step Y) agree) }

    counted : x - 1 ≡ rounds Y
    unfolding rounds
    counted = omega (arith, rw (← e, ← T.starts) at (searched_rounds I over (step Y) agree))

  pub searched_end : Found start R first targets shapes heights distance queue (x - 1)
  searched_end = record { order = rw I.fits.many (searched_all I over); distances = found; counted = counted }
