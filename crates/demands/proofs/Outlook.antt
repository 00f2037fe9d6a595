-- Beyond 01: what `sheet_margin` and `harm` answer holds of every widened run, from bytes.
use mathlib.Core.Path.{◌≡◌, refl, sym, ap, subst, ◌∙◌}
use mathlib.Core.Bool.{cond}
use mathlib.Core.List.{List, [], ◌∷◌}
use Prim.Native.Nat.{ℕ, ◌+◌, ◌*◌, ◌≤◌, ◌<◌}
use lib.ListN.{get_or}
use Rattle.theory.specs.Marked.{unsafe}
use Rattle.theory.specs.Automaton.{Automaton}
use Rattle.theory.specs.Replay.{our_moves}
use Rattle.theory.specs.StateGraph.{labelled_of}
use Rattle.theory.proofs.Marked.{unsafe_is}
use Rattle.theory.proofs.Trail.{unsafe_trail}
use Rattle.theory.proofs.Replay.{our_moves_pass, passes_law}
use Rattle.number.specs.Answer.{Answer, answer}
use Rattle.model.specs.declared.Model.{Model}
use Rattle.plan_reader.proofs.Accepted.{accepted_resets}
use Rattle.graph.specs.Plan.{automaton_of, system_of_model, labelled_of_model}
use Rattle.graph.proofs.Models.{system_laws, labelled_laws}
use Rattle.robust.specs.Robust.{RobustlySafe}
use Rattle.robust.specs.Delay.{FragileWithin}
use Rattle.robust_models.proofs.Models.{our_margin_lem, trail_within}
use Rattle.trail_delay.specs.Ours.{delay_of, our_delay}
use Rattle.outlook.specs.Outlook.{our_margin}
use Rattle.call.specs.Call.{model_of, refusal}
use Rattle.op_judge.specs.Judge.{judged}
use Rattle.op_sheet_margin.specs.SheetMargin.{bound_values, sheet_margin_answer}
use Rattle.op_harm.specs.Harm.{harm_values, harm_answer}
use Rattle.call.proofs.Calls.{taken_in, accepted}
use Rattle.demands.specs.Told.{verdict_in, Perfect, Slip}
use Rattle.demands.proofs.Demand2.{answered, one_bit, zero_bit, verdict_is}
use Rattle.demands.proofs.Forever.{slip_within, within_without_drift}

-- an answer that is no refusal has its values
told : (r : ℕ) (vs ws : List ℕ) → answer r vs ≡ record { number = 0; values = ws } → vs ≡ ws
unfolding answer
told r vs ws e =
    let z = answered r vs (ap (λ (a : Answer). a.number) e) in
    let f : answer 0 vs ≡ record { number = 0; values = ws } = rw z at e in
    ap (λ (a : Answer). a.values) f

module _ (bytes lent : List ℕ) where
  abbrev m : Model
  m = model_of bytes

  abbrev plan : Automaton
  plan = automaton_of m

  -- Both say what the judge says.
  module _ (taken : refusal bytes lent ≡ 0) where
    pub margin_as_judged : verdict_in (sheet_margin_answer bytes lent) ≡ verdict_in (judged bytes lent)
    unfolding sheet_margin_answer answer bound_values
    margin_as_judged = rw taken refl ∙ sym (verdict_is bytes lent taken)

    pub harm_as_judged : verdict_in (harm_answer bytes lent) ≡ verdict_in (judged bytes lent)
    unfolding harm_answer answer harm_values
    harm_as_judged = rw taken refl ∙ sym (verdict_is bytes lent taken)

  -- Where `sheet_margin` answers safe and A, no widened run of any number of jumps with A e < D enters a forbidden location.
  pub margin_for_ever : (S A : ℕ) → sheet_margin_answer bytes lent ≡ record { number = 0; values = 0 ∷ S ∷ A ∷ [] } → RobustlySafe plan A
  unfolding sheet_margin_answer bound_values our_margin
  margin_for_ever S A e =
      let taken = answered (refusal bytes lent) (bound_values m) (ap (λ (a : Answer). a.number) e) in
      let values = told (refusal bytes lent) (bound_values m) (0 ∷ S ∷ A ∷ []) e in
      let u = (zero_bit (unsafe (system_of_model m))).0 (ap (λ (l : List ℕ). get_or l 0 0) values) in
      let z : cond (unsafe (system_of_model m)) 0 (our_margin m) ≡ A = ap (λ (l : List ℕ). get_or l 2 0) values in
      let is : our_margin m ≡ A = rw u at z in
      subst (RobustlySafe plan) is (our_margin_lem m (accepted bytes lent taken) u)

  -- Where `harm` answers base and rate: with each drift e/D, where D is at most q e, some widened run of at most base + rate q jumps enters a forbidden
  -- location;
  module _ (S base rate : ℕ) (e : harm_answer bytes lent ≡ record { number = 0; values = 1 ∷ S ∷ base ∷ rate ∷ [] }) where
    pub harm_within : FragileWithin plan (λ q. base + rate * q)
    unfolding harm_answer harm_values our_delay delay_of labelled_of
    harm_within =
        let taken = answered (refusal bytes lent) (harm_values m) (ap (λ (a : Answer). a.number) e) in
        let values = told (refusal bytes lent) (harm_values m) (1 ∷ S ∷ base ∷ rate ∷ []) e in
        let Y = system_of_model m in
        let P = labelled_of_model m in
        let u = (one_bit (unsafe Y)).0 (ap (λ (l : List ℕ). get_or l 0 0) values) in
        let y : cond (unsafe Y) (our_delay m).base 0 ≡ base = ap (λ (l : List ℕ). get_or l 2 0) values in
        let z : cond (unsafe Y) (our_delay m).rate 0 ≡ rate = ap (λ (l : List ℕ). get_or l 3 0) values in
        let b : (our_delay m).base ≡ base = rw u at y in
        let r : (our_delay m).rate ≡ rate = rw u at z in
        let ok = accepted bytes lent taken in
        let (l, t) = unsafe_trail Y (system_laws m ok) (unsafe_is Y (system_laws m ok) u) in
        let p = (passes_law P (our_moves P)).1 (our_moves_pass P (labelled_laws m ok) l t) in
        subst (λ (k : ℕ). FragileWithin plan (λ q. k + rate * q)) b
        (subst (λ (k : ℕ). FragileWithin plan (λ q. (our_delay m).base + k * q)) r
        (trail_within m ok (accepted_resets bytes (taken_in bytes lent taken)) (our_moves P) p))

    -- and where perfect clocks enter none, some run slips in that window, and none before it.
    pub harm_window : Perfect plan → (d D q : ℕ) → 0 < D → D ≤ q * d → Slip plan d D (base + rate * q)
    harm_window none = slip_within bytes none harm_within

  -- Where the rate is 0 no drift is needed: perfect clocks enter one too.
  pub harm_without_drift : (S base : ℕ) → harm_answer bytes lent ≡ record { number = 0; values = 1 ∷ S ∷ base ∷ 0 ∷ [] } → Perfect plan → ⊥
  harm_without_drift S base e = within_without_drift bytes base (harm_within S base 0 e)
