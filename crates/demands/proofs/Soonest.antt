-- Request (e) of 02: "Soonest sounding." From bytes: `bytes` spell an accepted model and each scratch slice is long enough.
use mathlib.Core.Path.{◌≡◌, sym, ap, ◌∙◌}
use mathlib.Core.Bool.{true, false}
use mathlib.Core.Logic.{◌↔◌, ◌⊎◌, inl, inr}
use mathlib.Core.List.{List, [], ◌∷◌}
use Prim.Native.Nat.{ℕ, ◌≤◌, ◌<◌}
use native.Mathlib.Omega.{arith}
use native.Mathlib.Decide.{dec_lt}
use lib.ListN.{get_or}
use Rattle.theory.specs.Automaton.{Automaton, Steady}
use Rattle.theory.specs.Soonest.{Soonest, Never, Clean}
use Rattle.theory.specs.Below.{bit}
use Rattle.theory.specs.Marked.{unsafe}
use Rattle.theory.proofs.Below.{either}
use Rattle.theory.proofs.Soonest.{exact_clean, clean_steady}
use Rattle.model.specs.declared.Model.{Model}
use Rattle.model.specs.Model.{Lawful}
use Rattle.graph.specs.Plan.{automaton_of, system_of_model}
use Rattle.graph.specs.States.{states}
use Rattle.least_time.specs.LeastTime.{least_time}
use Rattle.least_time.proofs.Models.{soonest_law, never_law, start_soonest, outside_never, clean_law}
use Rattle.number.specs.Answer.{Answer, answer}
use Rattle.call.specs.Call.{model_of, refusal}
use Rattle.call.proofs.Calls.{accepted}
use Rattle.op_judge.specs.Judge.{judged}
use Rattle.op_soonest.specs.Sounding.{soonest_answer}
use Rattle.op_soonest.proofs.Arrivals.{never_there, time_there, soonest_done}
use Rattle.demands.specs.Told.{verdict_in, Perfect}
use Rattle.demands.specs.Soonest.{time_answer, no_time, ForbiddenNoTime}
use Rattle.demands.proofs.Demand2.{verdict_is}
use Rattle.demands.proofs.Forever.{safe_for_ever}

module _ (bytes lent : List ℕ) (taken : refusal bytes lent ≡ 0) where
  abbrev m : Model
  m = model_of bytes

  abbrev plan : Automaton
  plan = automaton_of m

  ok : Lawful m
  ok = accepted bytes lent taken

  -- ---- the two answers, by the number that is computed

  inside : (l : ℕ) → least_time m l < states m → l < m.locations
  inside l h = by (dec_lt l m.locations)
    where
      by : Dec (l < m.locations) → l < m.locations
      by (yes k) = k
      by (no k) = let z : m.locations ≤ l = omega arith in absurd (omega (arith, (never_law m ok l).1 (outside_never m ok l z)))

  timed : (l : ℕ) → least_time m l < states m → soonest_answer bytes l lent ≡ time_answer (least_time m l)
  unfolding answer
  timed l h = soonest_done bytes l lent taken ∙ ap (λ (r : ℕ). answer r (least_time m l ∷ [])) (time_there m l (inside l h) h)

  never : (l : ℕ) → states m ≤ least_time m l → soonest_answer bytes l lent ≡ no_time
  unfolding answer
  never l h = soonest_done bytes l lent taken ∙ ap (λ (r : ℕ). answer r (least_time m l ∷ [])) (never_there m l h)

  not_both : (a : Answer) (T : ℕ) → a ≡ time_answer T → a ≡ no_time → ⊥
  not_both a T e d = omega (arith, ap (λ (a : Answer). a.number) (sym e ∙ d))

  -- ---- "Some run on whole times takes just that long, and a run on times counted in D-ths of a unit, D any whole number from 1, takes at least D times it."

  pub soonest_exactly : (l T : ℕ) → (soonest_answer bytes l lent ≡ time_answer T) ↔ Soonest plan l T
  soonest_exactly l T = (
    λ e. (soonest_law m ok l T).0 (by e (dec_lt (least_time m l) (states m))),
    λ s. let (h, e) = (soonest_law m ok l T).1 s in timed l h ∙ ap time_answer e,
  )
    where
      by : soonest_answer bytes l lent ≡ time_answer T → Dec (least_time m l < states m) → (least_time m l < states m) × (least_time m l ≡ T)
      by e (yes h) = (h, ap (λ (a : Answer). get_or a.values 0 0) (sym (timed l h) ∙ e))
      by e (no h) = let k : states m ≤ least_time m l = omega arith in absurd (not_both _ T e (never l k))

  -- ---- "16 when the location number is L or more, or no run gets there"

  -- no run gets to a number that is no location's, so the second says it all
  pub sixteen_exactly : (l : ℕ) → (soonest_answer bytes l lent ≡ no_time) ↔ Never plan l
  sixteen_exactly l = (
    λ e. (never_law m ok l).0 (by e (dec_lt (least_time m l) (states m))),
    λ n. never l ((never_law m ok l).1 n),
  )
    where
      by : soonest_answer bytes l lent ≡ no_time → Dec (least_time m l < states m) → states m ≤ least_time m l
      by e (yes h) = absurd (not_both _ (least_time m l) (timed l h) e)
      by e (no h) = omega arith

  pub outside_sixteen : (l : ℕ) → m.locations ≤ l → soonest_answer bytes l lent ≡ no_time
  outside_sixteen l h = (sixteen_exactly l).1 (outside_never m ok l h)

  -- there is no third answer
  pub time_or_none : (l : ℕ) → ((T : ℕ) × (soonest_answer bytes l lent ≡ time_answer T)) ⊎ (soonest_answer bytes l lent ≡ no_time)
  time_or_none l = by (dec_lt (least_time m l) (states m))
    where
      by : Dec (least_time m l < states m) → ((T : ℕ) × (soonest_answer bytes l lent ≡ time_answer T)) ⊎ (soonest_answer bytes l lent ≡ no_time)
      by (yes h) = inl (least_time m l, timed l h)
      by (no h) = inr (never l (omega arith))

  -- "The start location gives 0."
  pub start_zero : soonest_answer bytes plan.start lent ≡ time_answer 0
  start_zero = (soonest_exactly plan.start 0).1 (start_soonest m ok)

  -- ---- beyond 02: clean with perfect clocks

  pub clean_exactly : Clean plan ↔ ForbiddenNoTime bytes lent
  clean_exactly = (
    λ c l b f. never l ((clean_law m ok).0 c l b f),
    λ a. (clean_law m ok).1 (λ l b f. (never_law m ok l).1 ((sixteen_exactly l).0 (a l b f))),
  )

  -- on whole times
  pub perfect_exactly : Perfect plan ↔ ForbiddenNoTime bytes lent
  perfect_exactly = (λ p. clean_exactly.0 ((exact_clean plan).1 p), λ a. (exact_clean plan).0 (clean_exactly.1 a))

  -- then, though the plan may be unsafe, no widened run of at most K jumps with (K+1)e < D enters a forbidden location; and only then
  pub steady_exactly : Steady plan ↔ ForbiddenNoTime bytes lent
  steady_exactly = (λ s. clean_exactly.0 ((clean_steady plan).1 s), λ a. (clean_steady plan).0 (clean_exactly.1 a))

  -- a safe plan is clean, so where a forbidden location has a time the plan is unsafe
  pub safe_clean : verdict_in (judged bytes lent) ≡ 0 → ForbiddenNoTime bytes lent
  safe_clean e =
      let (A, R) = (safe_for_ever bytes lent taken).0 e in
      perfect_exactly.0 (λ gs l v t r. R.enters_none 0 1 1 (omega arith) (omega arith) gs l v t r)

  pub time_unsafe : (l T : ℕ) → plan.forbidden l ≡ true → soonest_answer bytes l lent ≡ time_answer T → verdict_in (judged bytes lent) ≡ 1
  time_unsafe l T f e = by (either (unsafe (system_of_model m)))
    where
      by : (unsafe (system_of_model m) ≡ true) ⊎ (unsafe (system_of_model m) ≡ false) → verdict_in (judged bytes lent) ≡ 1
      by (inl u) = verdict_is bytes lent taken ∙ ap bit u
      by (inr s) =
          let none = safe_clean (verdict_is bytes lent taken ∙ ap bit s) in
          let (h, _) = (soonest_law m ok l T).1 ((soonest_exactly l T).0 e) in
          absurd (not_both _ T e (none l (inside l h) f))
