-- The rank that the steps of a fringe state give is the most jumps of a walk from it, where the states below its height have their ranks. One more than
-- the greatest rank is `fringe_entries`.
use mathlib.Core.Path.{◌≡◌, refl, sym, ap, ◌∙◌}
use mathlib.Core.Bool.{true, false, cond}
use mathlib.Core.List.{List}
use mathlib.Core.Logic.{◌⊎◌, inl, inr, ⊎_elim}
use Prim.Native.Nat.{ℕ, suc, ◌+◌, ◌-◌, ◌≤◌, ◌<◌, max}
use native.Mathlib.Nat.{le_antisymm}
use native.Mathlib.Numerals.{add-one}
use native.Mathlib.Omega.{arith}
use lib.Dec.{eqb}
use lib.ListN.{length, get_or, set}
use Rattle.theory.specs.Below.{bit, top}
use Rattle.theory.specs.System.{Laws}
use Rattle.theory.specs.Labels.{Leads}
use Rattle.theory.specs.Sheet.{Sheet, in_of, height_of}
use Rattle.theory.specs.Adjacency.{Rows}
use Rattle.theory.specs.StateGraph.{time_from, step_from, system_of, labelled_of}
use Rattle.theory.proofs.Below.{either, true_unless_false, false_unless_true, top_ge, top_at}
use Rattle.theory.proofs.Sheet.{sheet_law}
use Rattle.theory.proofs.Rows.{holds_rows}
use Rattle.model.specs.declared.Model.{Model}
use Rattle.graph.specs.Plan.{automaton_of, system_of_model, labelled_of_model}
use Rattle.graph.specs.States.{states}
use Rattle.graph.proofs.Plan.{within}
use Rattle.graph.proofs.States.{states_limit}
use Rattle.graph.proofs.Models.{system_laws, labelled_laws}
use Rattle.robust.specs.Fringe.{Fringe, Ranks, fringe, jumps_from, fringe_entries}
use Rattle.robust.proofs.Fringe.{fringe_below, fringe_law, entries_ranks, jumps_ranks, entries_law}
use Rattle.fringe_ranks.specs.Ranks.{RanksAsked, HeightsRoom, InFringe, jumps_of, RankedBelow, RankedUpto, StateRanked, rank_by, rank_upto, rank_in}
use Rattle.fringe_ranks.proofs.Apart.{time_apart}
use Rattle.fringe_ranks.proofs.Jumps.{jumps_height, jumps_least, jumps_most}

module _ {m : Model} {table first targets sheet flags : List ℕ} (A : RanksAsked m table first targets sheet flags) where
  laws : Laws (system_of_model m)
  laws = system_laws m A.lawful

  passed : Sheet (system_of_model m) sheet
  passed = (sheet_law (system_of_model m) laws sheet).0 A.passes

  pub sheet_long : length sheet ≡ states m
  unfolding system_of
  sheet_long = passed.long

  low : (p : ℕ) → p < (system_of_model m).size → height_of sheet p < (system_of_model m).size
  low p b = let h = passed.bounded p b in omega arith

  apart : (p q e : ℕ) → Leads (labelled_of_model m) 0 p q → Leads (labelled_of_model m) (suc e) p q → ⊥
  unfolding automaton_of
  apart = time_apart (automaton_of m) m.locations (within m A.lawful) A.lawful.clocks.0

  -- ---- the fringe

  is_fringe : {p : ℕ} → InFringe m sheet p → Fringe (system_of_model m) (in_of sheet) p
  is_fringe {p} i = (fringe_law (system_of_model m) laws (in_of sheet) p).0 i

  pub fringe_state : {p : ℕ} → InFringe m sheet p → p < states m
  unfolding system_of
  fringe_state i = (fringe_below (system_of_model m) laws (in_of sheet) (is_fringe i)).0

  flag_set : (p : ℕ) → InFringe m sheet p → get_or flags p 0 ≡ 1
  flag_set p i = A.fringe.is p (fringe_state i) ∙ ap bit i

  pub flag_some : (p : ℕ) → p < states m → (get_or flags p 0 ≡ 0 → ⊥) → InFringe m sheet p
  flag_some p b n = true_unless_false (fringe (system_of_model m) (in_of sheet) p) (λ o. n (A.fringe.is p b ∙ ap bit o))

  flag_none : (p : ℕ) → get_or flags p 0 ≡ 0 → fringe (system_of_model m) (in_of sheet) p ≡ false
  flag_none p z = false_unless_true (fringe (system_of_model m) (in_of sheet) p) (λ i. omega (arith, flag_set p i))

  -- a step from the fringe leads to a lower state
  lower : (p q : ℕ) → InFringe m sheet p → (system_of_model m).flow p q ≡ true → height_of sheet q < height_of sheet p
  lower p q i f = let j = is_fringe i in passed.rules.lower j.beside p q j.beside_in j.out j.near f

  jumps_low : (p : ℕ) → InFringe m sheet p → jumps_of m sheet p ≤ height_of sheet p
  unfolding labelled_of system_of
  jumps_low p i = jumps_height (labelled_of_model m) (labelled_laws m A.lawful) (in_of sheet) (height_of sheet) passed.rules low apart p (is_fringe i)

  jumps_few : (p : ℕ) → InFringe m sheet p → jumps_of m sheet p < states m
  unfolding system_of
  jumps_few p i = omega (arith, jumps_low p i, low p (fringe_state i))

  -- ---- a fringe state p, where the states below its height have their ranks

  module _ (ranks : List ℕ) (p : ℕ) (i : InFringe m sheet p) (R : RankedBelow m sheet (height_of sheet p) ranks) where
    abbrev later : ℕ
    later = time_from (automaton_of m) m.locations p

    abbrev from : ℕ
    from = get_or first p 0

    abbrev steps : ℕ
    steps = get_or first (p + 1) 0 - from

    abbrev told : ℕ → ℕ
    told k = rank_by flags ranks later (get_or targets (from + k) 0)

    flows : (k : ℕ) → from ≤ k → k < get_or first (p + 1) 0 → (system_of_model m).flow p (get_or targets k 0) ≡ true
    flows k a b =
        (A.flow.holds.edges p (get_or targets k 0) (fringe_state i)).0
        record { place = k; after = a; before = rw add-one at b; is = refl }

    value : (q : ℕ) → InFringe m sheet q → (system_of_model m).flow p q ≡ true
        → rank_by flags ranks later q ≡ cond (eqb q later) (jumps_of m sheet q) (jumps_of m sheet q + 1)
    value q j f = rw (flag_set q j, R q j (lower p q i f))

    no_more : rank_in first targets flags ranks later p ≤ jumps_of m sheet p
    unfolding rank_upto labelled_of system_of step_from
    no_more = by (top_at steps told)
      where
        at : (k : ℕ) → k < steps → (fringe (system_of_model m) (in_of sheet) (get_or targets (from + k) 0) ≡ true)
            ⊎ (fringe (system_of_model m) (in_of sheet) (get_or targets (from + k) 0) ≡ false) → told k ≤ jumps_of m sheet p
        at k b (inl j) =
            let q = get_or targets (from + k) 0 in
            let f = flows (from + k) (omega arith) (omega arith) in
            omega (
              arith,
              value q j f,
              jumps_least (labelled_of_model m) (labelled_laws m A.lawful) (in_of sheet) (height_of sheet) passed.rules low apart
                  p q (is_fringe i) (is_fringe j) f,
            )
        at k b (inr n) =
            let q = get_or targets (from + k) 0 in
            let f = flows (from + k) (omega arith) (omega arith) in
            let c = laws.allowed_below q (laws.flow_joins p q f).1 in
            let z : told k ≡ 0 = rw (A.fringe.is q c ∙ ap bit n) in
            omega arith

        by : (top steps told ≡ 0) ⊎ ((k : ℕ) × (k < steps) × (top steps told ≡ told k)) → top steps told ≤ jumps_of m sheet p
        by (inl z) = omega arith
        by (inr (k, b, e)) = omega (arith, e, at k b (either (fringe (system_of_model m) (in_of sheet) (get_or targets (from + k) 0))))

    no_fewer : jumps_of m sheet p ≤ rank_in first targets flags ranks later p
    unfolding rank_upto labelled_of system_of step_from
    no_fewer =
        jumps_most (labelled_of_model m) (labelled_laws m A.lawful) (in_of sheet) (height_of sheet) passed.rules low apart p (top steps told) (is_fringe i)
        (λ q j f.
        let t = (fringe_law (system_of_model m) laws (in_of sheet) q).1 j in
        let a = (A.flow.holds.edges p q (fringe_state i)).1 f in
        let b : a.place < get_or first (p + 1) 0 = rw add-one a.before in
        let k = a.place - from in
        let same : from + k ≡ a.place = omega (arith, a.after) in
        let here : told k ≡ rank_by flags ranks later q = ap (rank_by flags ranks later) (ap (λ (n : ℕ). get_or targets n 0) same ∙ a.is) in
        omega (arith, here, value q t f, top_ge steps told k (omega (arith, a.after))))

    rank_is : rank_in first targets flags ranks later p ≡ jumps_of m sheet p
    rank_is = le_antisymm no_more no_fewer

    -- what the code finds and leaves
    rank_told : (t x : ℕ) → t ≡ later → x ≡ rank_in first targets flags ranks t p → x ≡ jumps_of m sheet p
    rank_told t x f e = e ∙ ap (λ (n : ℕ). rank_in first targets flags ranks n p) f ∙ rank_is

    pub rank_set : (t x c r : ℕ) → t ≡ later → x ≡ rank_in first targets flags ranks t p → r ≡ max c (x + 1)
        → StateRanked m sheet ranks (set ranks p x) p c r
    rank_set t x c r f e d =
        let z = rank_told t x f e in
        record { ranked = rw i (ap (set ranks p) z); entries = rw i (d ∙ ap (λ (n : ℕ). max c (n + 1)) z) }

    pub rank_few : (t x : ℕ) → t ≡ later → x ≡ rank_in first targets flags ranks t p → x < states m
    rank_few t x f e = omega (arith, rank_told t x f e, jumps_few p i)

  pub rank_kept : (ranks : List ℕ) (p c : ℕ) → get_or flags p 0 ≡ 0 → StateRanked m sheet ranks ranks p c c
  rank_kept ranks p c z = let o = flag_none p z in record { ranked = rw o; entries = rw o }

  -- ---- all heights

  pub flow_rows : Rows first targets (length flags)
  unfolding system_of
  flow_rows = rw A.fringe.long (holds_rows A.flow.holds)

  pub heights_room : {heads links : List ℕ} → length heads ≡ states m → length links ≡ states m → HeightsRoom sheet heads links
  unfolding system_of
  heights_room e d =
      record {
        few = omega (arith, sheet_long, states_limit m A.lawful);
        low = λ p b. rw e (low p (omega (arith, sheet_long)));
        links_long = d ∙ sym sheet_long;
      }

  pub ranked_none : {ranks : List ℕ} → length ranks ≡ states m → RankedUpto m sheet 0 ranks 0
  ranked_none e =
      record { long = e; below = λ p i l. absurd (omega arith); most = λ p i l. absurd (omega arith); some = inl refl }

  pub entries_are : {h c : ℕ} {ranks : List ℕ} → RankedUpto m sheet h ranks c → states m ≤ h
      → (c ≡ fringe_entries (labelled_of_model m) (in_of sheet)) × (c ≤ states m)
  unfolding labelled_of system_of
  entries_are {h} {c} U b = (le_antisymm (⊎_elim (λ z. omega arith) least U.some) most, ⊎_elim (λ z. omega arith) few U.some)
    where
      J : Ranks (labelled_of_model m) (in_of sheet) (jumps_from (labelled_of_model m) (in_of sheet) (states m)) (fringe_entries (labelled_of_model m) (in_of sheet))
      J = jumps_ranks (labelled_of_model m) (labelled_laws m A.lawful) (in_of sheet) (height_of sheet) passed.rules low

      least : (p : ℕ) × InFringe m sheet p × (c ≡ suc (jumps_of m sheet p)) → c ≤ fringe_entries (labelled_of_model m) (in_of sheet)
      least (p, i, e) = omega (arith, J.few p (fringe_state i) (is_fringe i))

      few : (p : ℕ) × InFringe m sheet p × (c ≡ suc (jumps_of m sheet p)) → c ≤ states m
      few (p, i, e) = omega (arith, jumps_few p i)

      most : fringe_entries (labelled_of_model m) (in_of sheet) ≤ c
      most =
          entries_ranks laws
          record {
            time = J.time;
            jump = J.jump;
            few = λ p l i.
                let t = (fringe_law (system_of_model m) laws (in_of sheet) p).1 i in
                U.most p t (omega (arith, low p l));
          }
          (entries_law (labelled_of_model m) (labelled_laws m A.lawful) (in_of sheet) (height_of sheet) passed.rules low)
