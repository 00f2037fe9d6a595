-- Beyond 01: the verdict is right for ever, in both directions. Safe means that some drift above 0 is harmless however long a run is; unsafe means that
-- every drift above 0 does harm in the end. How slight a drift is harmless, and how soon one does harm, is told by the drawing and by the evidence.
--
-- As in Demand3, `bytes` spell an accepted model and each scratch slice is long enough.
use mathlib.Core.Path.{◌≡◌, refl, sym, ap, subst, ◌∙◌}
use mathlib.Core.Bool.{true, false, true≢false}
use mathlib.Core.Logic.{◌↔◌}
use mathlib.Core.List.{List, [], ◌∷◌}
use Prim.Native.Nat.{ℕ, ◌+◌, ◌*◌, ◌≤◌, ◌<◌}
use native.Mathlib.Decide.{dec_lt}
use native.Mathlib.Omega.{arith}
use lib.ListN.{length, get_or}
use Rattle.theory.specs.Below.{bit}
use Rattle.theory.specs.Marked.{unsafe}
use Rattle.theory.specs.Automaton.{Automaton, Edge, Run}
use Rattle.theory.specs.Sheet.{Sheet, sheet_test}
use Rattle.theory.specs.Replay.{Move}
use Rattle.theory.proofs.Sheet.{is_sheet}
use Rattle.theory.proofs.Replay.{passes_law}
use Rattle.theory.proofs.Rounding.{steady_law}
use Rattle.number.specs.Answer.{Answer, answer}
use Rattle.evidence_number.specs.Evidence.{SpellsEvidence}
use Rattle.evidence_number.proofs.Reading.{spelled_once}
use Rattle.evidence.specs.Evidence.{TrailPasses}
use Rattle.model.specs.declared.Model.{Model}
use Rattle.model.specs.Model.{Lawful}
use Rattle.edge_walks.specs.Cycle.{LeavesUnreset}
use Rattle.plan_reader.specs.Accept.{read_model}
use Rattle.plan_reader.proofs.Accepted.{accepted_resets}
use Rattle.graph.specs.Plan.{automaton_of, system_of_model, labelled_of_model}
use Rattle.graph.proofs.Models.{system_laws}
use Rattle.robust.specs.Robust.{RobustlySafe, Fragile}
use Rattle.robust.specs.Margin.{margin, max_margin}
use Rattle.robust.specs.Fringe.{sheet_margin, height_margin}
use Rattle.robust.specs.Delay.{FragileWithin, move_rate, trail_base, trail_rate}
use Rattle.robust_models.proofs.Models.{safe_forever, sheet_forever, sheet_margin_lem, sheet_height_margin, margin_height, margin_uniform, trail_fragile, trail_within, verdict_right}
use Rattle.call.specs.Call.{model_of, states_of, refusal}
use Rattle.op_judge.specs.Judge.{judged}
use Rattle.op_check.specs.Check.{check_answer}
use Rattle.op_margin.specs.Margin.{margin_answer}
use Rattle.call.proofs.Calls.{taken_in, accepted}
use Rattle.demands.specs.Told.{verdict_in, kind_answer, Perfect, NoTouch, Slip}
use Rattle.demands.proofs.Demand2.{answered, one_bit, zero_bit, verdict_is}
use Rattle.demands.proofs.Demand3.{sheet_exactly, trail_exactly}

-- what the margin says of an accepted model
margin_done : (bytes : List ℕ) → (read_model bytes).refusal ≡ 0
    → margin_answer bytes ≡ record { number = 0; values = states_of bytes ∷ margin (automaton_of (model_of bytes)) (model_of bytes).locations ∷ [] }
unfolding margin_answer answer
margin_done bytes e = simp e refl

-- without a touch the rate is 0
no_touch_rate : (a : Automaton) {ms : List Move} → NoTouch ms → trail_rate a ms ≡ 0
unfolding trail_rate move_rate
no_touch_rate a NoTouch.none = refl
no_touch_rate a (NoTouch.by_flow x rest) = omega (arith, no_touch_rate a rest)
no_touch_rate a (NoTouch.by_face p rest) = omega (arith, no_touch_rate a rest)

abbrev others : List ℕ → List ℕ
others [] = []
others (v ∷ vs) = vs

module _ (bytes lent : List ℕ) (taken : refusal bytes lent ≡ 0) where
  abbrev m : Model
  m = model_of bytes

  ok : Lawful m
  ok = accepted bytes lent taken

  resets : LeavesUnreset m → ⊥
  resets = accepted_resets bytes (taken_in bytes lent taken)

  is : verdict_in (judged bytes lent) ≡ bit (unsafe (system_of_model m))
  is = verdict_is bytes lent taken

  -- the judge says safe exactly where some drift above 0 is harmless for ever
  pub safe_for_ever : (verdict_in (judged bytes lent) ≡ 0) ↔ ((A : ℕ) × RobustlySafe (automaton_of m) A)
  safe_for_ever = (
    λ e. (verdict_right m ok resets).0.0 ((zero_bit (unsafe (system_of_model m))).0 (sym is ∙ e)),
    λ r. is ∙ ap bit ((verdict_right m ok resets).0.1 r),
  )

  -- and unsafe exactly where every drift above 0 enters a forbidden location
  pub unsafe_for_real : (verdict_in (judged bytes lent) ≡ 1) ↔ Fragile (automaton_of m)
  unsafe_for_real = (
    λ e. (verdict_right m ok resets).1.0 ((one_bit (unsafe (system_of_model m))).0 (sym is ∙ e)),
    λ f. is ∙ ap bit ((verdict_right m ok resets).1.1 f),
  )

  -- the check says the same of whoever's evidence: a sheet that passes, with the bound that the drawing gives;
  pub sheet_for_ever : (shown : List ℕ) → check_answer bytes shown lent ≡ kind_answer 1 → RobustlySafe (automaton_of m) (margin (automaton_of m) m.locations)
  sheet_for_ever shown e =
      let (l, s, K) = (sheet_exactly bytes lent taken shown).0 e in
      sheet_forever m ok l (is_sheet (system_of_model m) (system_laws m ok) l K)

  -- a trail that passes
  pub trail_for_real : (shown : List ℕ) → check_answer bytes shown lent ≡ kind_answer 2 → Fragile (automaton_of m)
  trail_for_real shown e =
      let (vs, s, w) = (trail_exactly bytes lent taken shown).0 e in
      trail_fragile m ok resets vs ((passes_law (labelled_of_model m) vs).1 w)

  -- By the evidence itself. A sheet that passes, whose numbers after the first are l: no widened run of any number of jumps with A e < D enters a forbidden
  -- location, where A is computed from l by the walks through its fringe, or by its greatest height.
  module _ (shown l : List ℕ) (e : check_answer bytes shown lent ≡ kind_answer 1) (s : SpellsEvidence shown (1 ∷ l)) where
    passing : sheet_test (system_of_model m) l ≡ true
    passing =
        let (l', s', K) = (sheet_exactly bytes lent taken shown).0 e in
        is_sheet (system_of_model m) (system_laws m ok) l (subst (Sheet (system_of_model m)) (ap others (spelled_once (1 ∷ l') (1 ∷ l) s' s)) K)

    pub sheet_safe_by_margin : RobustlySafe (automaton_of m) (sheet_margin (automaton_of m) m.locations l)
    sheet_safe_by_margin = sheet_margin_lem m ok l passing

    pub sheet_safe_by_height : RobustlySafe (automaton_of m) (height_margin (automaton_of m) m.locations l)
    sheet_safe_by_height = sheet_height_margin m ok l passing

    -- the first is never larger
    pub margin_under_height : sheet_margin (automaton_of m) m.locations l ≤ height_margin (automaton_of m) m.locations l
    margin_under_height = margin_height m ok l passing

  -- A trail that passes: with each drift e/D, where D is at most q e, some widened run of at most base + rate q jumps enters a forbidden location.
  pub trail_harms_within : (shown : List ℕ) → check_answer bytes shown lent ≡ kind_answer 2
      → (p : TrailPasses m shown) × FragileWithin (automaton_of m) (λ q. trail_base (automaton_of m) p.0 + trail_rate (automaton_of m) p.0 * q)
  trail_harms_within shown e =
      let (vs, s, w) = (trail_exactly bytes lent taken shown).0 e in
      ((vs, s, w), trail_within m ok resets vs ((passes_law (labelled_of_model m) vs).1 w))

  -- a number that serves every model
  pub margin_most : margin (automaton_of m) m.locations ≤ max_margin
  margin_most = margin_uniform m ok

-- ---- from the answers alone

-- Where the judge answers safe and the margin answers A, no widened run of any number of jumps with A e < D enters a forbidden location.
pub for_ever : (bytes lent : List ℕ) (s k s' A : ℕ) → judged bytes lent ≡ record { number = 0; values = 0 ∷ s ∷ k ∷ [] }
    → margin_answer bytes ≡ record { number = 0; values = s' ∷ A ∷ [] }
    → (e D N : ℕ) → A * e < D → 0 < N
    → (gs : List Edge) (l : ℕ) (v : List ℕ) (t : ℕ) → Run (automaton_of (model_of bytes)) N e D gs l v t → (automaton_of (model_of bytes)).forbidden l ≡ false
unfolding judged margin_answer answer
for_ever bytes lent s k s' A safe bound =
    let taken = answered (refusal bytes lent) _ (ap (λ (a : Answer). a.number) safe) in
    let m = model_of bytes in
    let u = (zero_bit (unsafe (system_of_model m))).0 (sym (verdict_is bytes lent taken) ∙ ap verdict_in safe) in
    let is : margin (automaton_of m) m.locations ≡ A =
    ap (λ (a : Answer). get_or a.values 1 0) (sym (margin_done bytes (taken_in bytes lent taken)) ∙ bound) in
    (subst (RobustlySafe (automaton_of m)) is (safe_forever m (accepted bytes lent taken) u)).enters_none

-- ---- plans that are unsafe by drift only

module _ (bytes : List ℕ) where
  abbrev plan : Automaton
  plan = automaton_of (model_of bytes)

  -- Where no exact run enters a forbidden location, no widened run of at most K jumps with (K+1)e < D does.
  pub drift_only : Perfect plan → (K e D N : ℕ) → (K + 1) * e < D → 0 < N
      → (gs : List Edge) (l : ℕ) (v : List ℕ) (t : ℕ) → length gs ≤ K → Run plan N e D gs l v t → plan.forbidden l ≡ false
  drift_only none = ((steady_law plan).1 none).enters_none

  -- So a slip takes its time: a widened run that enters one has k jumps with (k+1)e at least D.
  pub slip_takes : Perfect plan → (e D N : ℕ) → 0 < N
      → (gs : List Edge) (l : ℕ) (v : List ℕ) (t : ℕ) → Run plan N e D gs l v t → plan.forbidden l ≡ true → D ≤ (length gs + 1) * e
  slip_takes none e D N pos gs l v t r f = by (dec_lt ((length gs + 1) * e) D)
    where
      by : Dec ((length gs + 1) * e < D) → D ≤ (length gs + 1) * e
      by (yes h) = absurd (true≢false (sym f ∙ drift_only none (length gs) e D N h pos gs l v t (omega arith) r))
      by (no h) = omega arith

  -- And where drift does harm within so many jumps, it does so neither before nor after: some run slips in that window.
  pub slip_within : {most : ℕ → ℕ} → Perfect plan → FragileWithin plan most → (e D q : ℕ) → 0 < D → D ≤ q * e → Slip plan e D (most q)
  slip_within none F e D q pos less =
      let (N, some, gs, l, v, t, r, x, few) = F.enters_some e D q pos less in
      record {
        parts = N;
        some = some;
        edges = gs;
        place = l;
        values = v;
        time = t;
        run = r;
        harm = x;
        not_before = slip_takes none e D N some gs l v t r x;
        within = few;
      }

  -- so it is where a trail passes
  pub slip_window : (lent : List ℕ) → refusal bytes lent ≡ 0 → Perfect plan → (shown : List ℕ) → check_answer bytes shown lent ≡ kind_answer 2
      → (p : TrailPasses (model_of bytes) shown)
      × ((e D q : ℕ) → 0 < D → D ≤ q * e → Slip plan e D (trail_base plan p.0 + trail_rate plan p.0 * q))
  slip_window lent taken none shown e =
      let (p, F) = trail_harms_within bytes lent taken shown e in
      (p, slip_within none F)

  -- Harm within a number of jumps that does not depend on the drift needs none: perfect clocks enter a forbidden location too.
  pub within_without_drift : (b : ℕ) → FragileWithin plan (λ q. b + 0 * q) → Perfect plan → ⊥
  within_without_drift b F none =
      let (N, some, gs, l, v, t, r, x, few) = F.enters_some 1 (b + 2) (b + 2) (omega arith) (omega arith) in
      true≢false (sym x ∙ drift_only none b 1 (b + 2) N (omega arith) some gs l v t (omega arith) r)

  -- so it is where a trail without a touch passes
  pub trail_without_drift : (lent : List ℕ) (taken : refusal bytes lent ≡ 0) (shown : List ℕ) (e : check_answer bytes shown lent ≡ kind_answer 2)
      → NoTouch (trail_harms_within bytes lent taken shown e).0.0 → Perfect plan → ⊥
  trail_without_drift lent taken shown e free =
      let (p, F) = trail_harms_within bytes lent taken shown e in
      within_without_drift (trail_base plan p.0)
      (subst (λ (r : ℕ). FragileWithin plan (λ q. trail_base plan p.0 + r * q)) (no_touch_rate plan free) F)
