-- Time and jump steps, faces and touches, and the start, as the code has them.
use Prim.Native.Nat.{ℕ, zero, suc, ◌≤◌, ◌<◌}
use native.Mathlib.Omega.{arith}
use mathlib.Core.Path.{◌≡◌, refl, sym, ap, ◌∙◌}
use mathlib.Core.Bool.{Bool, true, false, cond}
use mathlib.Core.List.{List}
use lib.ListN.{length, get_or, replicate}
use lib.Dec.{ltb, eqb}
use borrow.Author.Tests.{ne_eqb, lt-ltb, le-ltb}
use Rattle.theory.specs.Region.{Clock, clocks, lawful}
use Rattle.theory.specs.RegionGraph.{point, origin}
use Rattle.theory.specs.Labels.{opens}
use Rattle.theory.specs.StateGraph.{state_at, time_from, jump_from, step_from, system_of, labelled_of}
use Rattle.theory.proofs.Region.{lawful_law, allowed_law}
use Rattle.theory.proofs.System.{start_below}
use Rattle.theory.proofs.StateGraph.{start_allowed}
use Rattle.number.specs.Number.{Number, on_number}
use Rattle.evidence_number.specs.Evidence.{read_evidence}
use Rattle.trail_numbers.specs.declared.Step.{Step}
use Rattle.evidence_number.specs.Numbers.{Numbers, got, refused, on_numbers}
use Rattle.trail_numbers.specs.Numbers.{numbers_at}
use Rattle.trail_numbers.specs.Three.{three_of, on_three}
use Rattle.trail_numbers.specs.Steps.{Reading, region_step, kept_region, region_at, jump_at, kind_at, step_at, on_reading}
use Rattle.region.specs.declared.Region.{Region}
use Rattle.region.specs.View.{view, struct_of, Known}
use Rattle.region.proofs.Views.{three as clock_cases}
use Rattle.model.specs.declared.Model.{Model}
use Rattle.model.specs.Model.{Lawful}
use Rattle.graph.specs.Plan.{automaton_of, system_of_model}
use Rattle.graph.specs.States.{states, next_of}
use Rattle.std.specs.Prelude.{Option, Some, None}
use Rattle.graph.proofs.Plan.{capped, edges_length}
use Rattle.graph.proofs.States.{clocks_of, ceiling_of}
use Rattle.graph.proofs.Models.{system_laws}
use Rattle.replay.specs.Trail.{Reached}
use Rattle.replay.specs.Trail.{At, Refused}
use Rattle.replay.specs.Trail.{flow_to, closed_walk, on_region, state_beside, face_step_to, touch_step_to, kind_step, trail_step}
use Rattle.replay.specs.Steps.{go_to, step_to}
use Rattle.replay.proofs.Ways.{numbers_is}
use Rattle.replay.proofs.Regions.{kept_of, kept_view, kept_harmless}
use Rattle.number.specs.Number as number
use Rattle.trail_numbers.specs.declared.Step.TheVariants as step
use Rattle.trail_numbers.specs.Steps as reading

-- ---- time and jump

module _ (m : Model) where
  module _ (s at : ℕ) where
    goes : (b : Bool) (q : ℕ) → go_to (cond b (Some q) None) at ≡ cond b (At q at) (Refused 13)
    goes true q = refl
    goes false q = refl

    pub time_goes : (n : Option ℕ) → n ≡ next_of m (time_from (automaton_of m) m.locations s) → go_to n at ≡ flow_to m 0 s at
    unfolding flow_to opens labelled_of system_of step_from
    time_goes n e =
        ap (λ o. go_to o at) e
        ∙ goes (ltb (time_from (automaton_of m) m.locations s) (states m)) (time_from (automaton_of m) m.locations s)
        ∙ rw (lt-ltb 0 (suc (length (automaton_of m).edges)) (omega arith)) refl

    pub jump_goes : (e : ℕ) → e < m.edges → (n : Option ℕ) → n ≡ next_of m (jump_from (automaton_of m) m.locations e s)
        → go_to n at ≡ flow_to m (suc e) s at
    unfolding flow_to opens labelled_of system_of step_from
    jump_goes e b n f =
        ap (λ o. go_to o at) f
        ∙ goes (ltb (jump_from (automaton_of m) m.locations e s) (states m)) (jump_from (automaton_of m) m.locations e s)
        ∙ rw (lt-ltb (suc e) (suc (length (automaton_of m).edges)) (omega (arith, edges_length m))) refl

    pub jump_nowhere : (e : ℕ) → m.edges ≤ e → Refused 13 ≡ flow_to m (suc e) s at
    unfolding flow_to opens labelled_of system_of
    jump_nowhere e b = rw (le-ltb (suc e) (suc (length (automaton_of m).edges)) (omega (arith, edges_length m))) refl

-- ---- the start

abbrev zero_region : Region
zero_region = record { w1 = 0; w2 = 0; w3 = 0; r1 = 0; r2 = 0; r3 = 0 }

module _ (m : Model) (ok : Lawful m) where
  origin-view : view m.clocks zero_region ≡ origin (automaton_of m)
  unfolding automaton_of
  origin-view = clock_cases (λ n. view n zero_region ≡ point (replicate n 0)) refl refl refl m.clocks (clocks_of m ok)

  pub origin_known : Known m.clocks m.ceiling zero_region
  unfolding automaton_of
  origin_known = record {
    padded = record { same = clock_cases (λ n. struct_of (view n zero_region) ≡ zero_region) refl refl refl m.clocks (clocks_of m ok) };
    lawful = ap (lawful m.clocks m.ceiling) origin-view
        ∙ (lawful_law m.clocks m.ceiling (origin (automaton_of m))).1 (start_allowed (capped m ok) m.start).region;
  }

  pub start_at : next_of m (state_at (automaton_of m) m.locations m.start (view m.clocks zero_region)) ≡ Some (system_of_model m).start
  unfolding state_at system_of automaton_of
  start_at =
      rw (
        origin-view,
        (allowed_law (automaton_of m) m.start (origin (automaton_of m))).1 (start_allowed (capped m ok) m.start),
        lt-ltb (system_of_model m).start (states m) (start_below (system_of_model m) (system_laws m ok)),
      )

  pub start_in : (p : ℕ) → p ≡ (system_of_model m).start → p < states m
  unfolding system_of
  start_in p e = rw e (start_below (system_of_model m) (system_laws m ok))

-- ---- faces and touches, by what is looked up

module _ (m : Model) (s at : ℕ) (xs : List Clock) where
  pub face_shut : lawful m.clocks m.ceiling xs ≡ false → face_step_to m s xs at ≡ Refused 13
  unfolding face_step_to
  face_shut t = rw t refl

  module _ (q : ℕ) (t : lawful m.clocks m.ceiling xs ≡ true) (e : state_beside m s xs ≡ q) where
    pub face_opens : (system_of_model m).face s q ≡ true → At q at ≡ face_step_to m s xs at
    unfolding face_step_to
    face_opens f = rw (t, e, f)

    pub face_fails : (system_of_model m).face s q ≡ false → Refused 13 ≡ face_step_to m s xs at
    unfolding face_step_to
    face_fails f = rw (t, e, f)

module _ (m : Model) (bs : List ℕ) (s at : ℕ) (xs : List Clock) where
  pub touch_shut : lawful m.clocks m.ceiling xs ≡ false → touch_step_to m bs s xs at ≡ Refused 13
  unfolding touch_step_to
  touch_shut t = rw t refl

  module _ (q : ℕ) (t : lawful m.clocks m.ceiling xs ≡ true) (e : state_beside m s xs ≡ q) where
    pub touch_opens : (system_of_model m).near s q ≡ true → closed_walk m bs q at ≡ touch_step_to m bs s xs at
    unfolding touch_step_to
    touch_opens f = rw (t, e, f)

    pub touch_fails : (system_of_model m).near s q ≡ false → Refused 13 ≡ touch_step_to m bs s xs at
    unfolding touch_step_to
    touch_fails f = rw (t, e, f)

-- ---- a step that is read and then replayed is a step of the trail

module _ (m : Model) (ok : Lawful m) (bs : List ℕ) (p : ℕ) where
  abbrev replayed : Reading → Reached
  replayed r = on_reading r (λ st to. step_to m bs st p to) Refused

  -- a region's numbers as they are kept do for the numbers that are spelled
  region_read : (kind : ℕ) (f : List Clock → ℕ → Reached)
      → ((g : Region) (end : ℕ) → step_to m bs (region_step kind g) p end ≡ f (view m.clocks g) end)
      → ((xs : List Clock) (end : ℕ) → lawful m.clocks m.ceiling xs ≡ false → f xs end ≡ Refused 13)
      → (at : ℕ) → replayed (region_at m.clocks bs kind at) ≡ on_region m.clocks bs at f Refused
  unfolding region_at
  region_read kind f same shut at = wholes_read (numbers_at bs m.clocks at) refl
    where
      -- both readings, from what was read of the whole parts, and of the ranks
      kept : ℕ → ℕ → ℕ → ℕ → Reading
      kept a b c to =
          on_three (three_of (numbers_at bs m.clocks to)) (λ d e g end. reading.Read (region_step kind (kept_region a b c d e g)) end) reading.Refused

      spelled : List ℕ → ℕ → Reached
      spelled ws to = on_numbers (numbers_at bs m.clocks to) (λ rs end. f (clocks ws rs) end) Refused

      ranks_read : (ws : List ℕ) → length ws ≡ m.clocks → (to : ℕ) → replayed (kept (get_or ws 0 0) (get_or ws 1 0) (get_or ws 2 0) to) ≡ spelled ws to
      ranks_read ws l to = by (numbers_at bs m.clocks to) refl
        where
          by : (n : Numbers) → numbers_at bs m.clocks to ≡ n
              → replayed (on_three (three_of n) (λ d e g end.
              reading.Read (region_step kind (kept_region (get_or ws 0 0) (get_or ws 1 0) (get_or ws 2 0) d e g)) end) reading.Refused)
              ≡ on_numbers n (λ rs end. f (clocks ws rs) end) Refused
          by (got rs end) e =
              let h : length ws ≡ length rs = l ∙ sym (numbers_is bs m.clocks to rs end e).0 in
              same (kept_of ws rs) end
              ∙ ap (λ xs. f xs end) (kept_view ws rs h m.clocks (clocks_of m ok) l)
              ∙ kept_harmless m.clocks m.ceiling (clocks_of m ok) (ceiling_of m ok) (λ xs. f xs end) (Refused 13)
              (λ xs. shut xs end) (clocks ws rs)
          by (refused r) e = refl

      wholes_read : (n : Numbers) → numbers_at bs m.clocks at ≡ n
          → replayed (on_three (three_of n) kept reading.Refused) ≡ on_numbers n spelled Refused
      wholes_read (got ws to) e = ranks_read ws (numbers_is bs m.clocks at ws to e).0 to
      wholes_read (refused r) e = refl

  edge_read : (n : Number) → replayed (on_number n (λ e to. reading.Read (step.Jump e) to) reading.Refused)
      ≡ on_number n (λ e to. flow_to m (suc e) p to) Refused
  unfolding step_to
  edge_read (number.Value e to) = refl
  edge_read (number.Refused r) = refl

  kind_read : (kind at : ℕ) → replayed (kind_at m.clocks bs kind at) ≡ kind_step m bs p kind at
  unfolding jump_at step_to
  kind_read zero at = refl
  kind_read (suc zero) at = edge_read (read_evidence bs at)
  kind_read (suc (suc zero)) at = region_read 2 (face_step_to m p) (λ g end. refl) (λ xs end. face_shut m p end xs) at
  kind_read (suc (suc (suc zero))) at = region_read 3 (touch_step_to m bs p) (λ g end. refl) (λ xs end. touch_shut m bs p end xs) at
  kind_read (suc (suc (suc (suc k)))) at =
      let kind = suc (suc (suc (suc k))) in
      let not : (v : ℕ) → v ≤ 3 → eqb kind v ≡ false = λ v h. ne_eqb kind v (λ z. omega arith) in
      simp (not 0 (omega arith), not 1 (omega arith), not 2 (omega arith), not 3 (omega arith), lt-ltb 3 kind (omega arith))

  step_read : (at : ℕ) → replayed (step_at m.clocks bs at) ≡ trail_step m bs p at
  unfolding step_at trail_step
  step_read at = by (read_evidence bs at)
    where
      by : (n : Number) → replayed (on_number n (kind_at m.clocks bs) reading.Refused) ≡ on_number n (kind_step m bs p) Refused
      by (number.Value kind to) = kind_read kind to
      by (number.Refused r) = refl

  -- as the code has it
  module _ (at : ℕ) where
    pub step_stops : (r : ℕ) → reading.Refused r ≡ step_at m.clocks bs at → Refused r ≡ trail_step m bs p at
    step_stops r e = ap replayed e ∙ step_read at

    pub step_goes : (st : Step) (to : ℕ) → reading.Read st to ≡ step_at m.clocks bs at → step_to m bs st p to ≡ trail_step m bs p at
    step_goes st to e = ap replayed e ∙ step_read at
