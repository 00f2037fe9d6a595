-- Where a sheet passes, drift below 1 / sheet_margin is harmless for ever, and so is drift below 1 / height_margin. The states of the region graph that
-- have a corner that is in, and are not in themselves, are of the fringe; so ranks of the fringe are ranks of these.
use mathlib.Core.Path.{◌≡◌}
use mathlib.Core.List.{List}
use mathlib.Core.Logic.{◌⊎◌, inl, inr, ⊎_elim}
use mathlib.Core.Bool.{Bool, true, false}
use Prim.Native.Nat.{ℕ, suc, ◌+◌, ◌≤◌, ◌<◌}
use native.Mathlib.Omega.{arith}
use Rattle.theory.specs.Below.{top}
use Rattle.theory.specs.Labels.{LabelledSystem, Leads}
use Rattle.theory.specs.Marked.{unsafe}
use Rattle.theory.specs.Sheet.{SheetRules, Sheet, in_of, height_of, sheet_test, our_sheet}
use Rattle.theory.specs.Automaton.{Automaton, Edge, Capped, Upto}
use Rattle.theory.specs.Region.{Region, Face, face, shares, successor, raise}
use Rattle.theory.specs.RegionGraph.{Allowed, Enabled, Flow, FlowClosed, after, point}
use Rattle.theory.specs.StateGraph.{Within, state_count, number_of, system_of, labelled_of, step_from}
use Rattle.theory.proofs.Below.{either, top_ge}
use Rattle.theory.proofs.Region.{face_law, shares_law}
use Rattle.theory.proofs.Marked.{safe_is}
use Rattle.theory.proofs.Sheet.{sheet_law}
use Rattle.theory.proofs.Verdict.{sheet_complete}
use Rattle.theory.proofs.Stay.{allowed_point}
use Rattle.theory.proofs.StateGraph.{location_of_number, region_of_number, number_below, allowed_number, is_time, is_jump, drawn_edge, is_flow, flow_allowed, is_beside, system_laws, labelled_laws}
use Rattle.theory.proofs.StateMarked.{Inside, inside_closed, inside_clean}
use Rattle.robust.specs.Robust.{RobustlySafe}
use Rattle.robust.specs.Fringe.{Fringe, IsFringeEntries, Ranks, jumps_from, fringe_entries, span, sheet_margin, height_margin}
use Rattle.robust.proofs.Clocks.{corner_at}
use Rattle.robust.proofs.Half.{halves, allowed_half}
use Rattle.robust.proofs.Corner.{shares_point, to_corner}
use Rattle.robust.proofs.Lift.{corner_upto}
use Rattle.robust.proofs.Entries.{Entry}
use Rattle.robust.proofs.Verdict.{robust_below}
use Rattle.robust.proofs.Fringe.{entries_unique, entries_ranks, heights_ranks, jumps_ranks, entries_law}
use Rattle.robust.proofs.Ranked.{SomeIn, AllIn, Ranked, some_time, some_jump, ranked_forever}

module _ (m : Automaton) (locations : ℕ) (W : Within m locations) (kept : Capped m) where
  abbrev P : LabelledSystem
  P = labelled_of m locations

  module _ (is_in : ℕ → Bool) (h : ℕ → ℕ) (K : SheetRules (system_of m locations) is_in h) where
    abbrev In : ℕ → Region → Type 0
    In = Inside m locations W kept is_in

    closed : FlowClosed m In
    closed = inside_closed m locations W kept is_in K.start_in K.flow_in

    -- the corners of an in-state are in
    corners_in : (l : ℕ) (xs : Region) → l < locations → Allowed m l xs → is_in (number_of m l xs) ≡ true → AllIn In l xs
    unfolding system_of
    corners_in l xs b a i k =
        let there = allowed_point kept l (corner_upto k a.stays) in
        let on : Face xs (point (raise (suc k) xs)) → is_in (number_of m l (point (raise (suc k) xs))) ≡ true =
        λ f. K.face_in (number_of m l xs) _ i (is_beside m locations W face b a there ((face_law xs (point (raise (suc k) xs))).1 f)) in
        (b, there, to_corner (λ ys. is_in (number_of m l ys) ≡ true) xs k i on)

    -- a state with a corner that is in is in, or of the fringe
    side : (l : ℕ) (xs : Region) → Allowed m l xs → SomeIn In l xs
        → (is_in (number_of m l xs) ≡ true) ⊎ Fringe (system_of m locations) is_in (number_of m l xs)
    unfolding system_of
    side l xs a (k, (b, c, i)) = by (either (is_in (number_of m l xs)))
      where
        by : (is_in (number_of m l xs) ≡ true) ⊎ (is_in (number_of m l xs) ≡ false)
            → (is_in (number_of m l xs) ≡ true) ⊎ Fringe (system_of m locations) is_in (number_of m l xs)
        by (inl e) = inl e
        by (inr e) =
            let s = (shares_law (point (raise (suc k) xs)) xs).1 (shares_point (corner_at xs k)) in
            inr record { out = e; beside = number_of m l (point (raise (suc k) xs)); beside_in = i; near = is_beside m locations W shares b c a s }

    some_below : (l : ℕ) (xs : Region) → SomeIn In l xs → l < locations
    some_below l xs (k, (b, c, i)) = b

    -- a step by its label
    time_leads : (l : ℕ) (xs : Region) → l < locations → Allowed m l xs → Allowed m l (successor xs)
        → Leads P 0 (number_of m l xs) (number_of m l (successor xs))
    unfolding labelled_of system_of step_from
    time_leads l xs b a c =
        let p = location_of_number m l a.region in
        let r = region_of_number m l a.region in (
          omega arith,
          rw (p, r) at (is_time m locations (number_of m l xs) (allowed_number m locations l b a) (rw (p, r) c)),
          number_below m locations l b c.region,
        )

    jump_leads : (l : ℕ) (xs : Region) (g : Edge) → l < locations → Enabled m g l xs → Allowed m l xs → Allowed m g.target (after g xs)
        → (e : ℕ) × Leads P (suc e) (number_of m l xs) (number_of m g.target (after g xs))
    unfolding labelled_of system_of step_from
    jump_leads l xs g b o a c =
        let p = location_of_number m l a.region in
        let r = region_of_number m l a.region in
        let (e, d, f) = drawn_edge m locations g m.edges o.drawn in (
          e,
          (
            omega arith,
            rw (r, f) at (is_jump m locations e (number_of m l xs) (allowed_number m locations l b a) (rw (p, r, f) o) (rw (r, f) c)),
            number_below m locations g.target (W.targets g o.drawn) c.region,
          ),
        )

    -- After a step between states with a corner that is in all corners are in, or both states are of the fringe.
    flows : {l k : ℕ} {xs ys : Region} → Flow m l xs k ys → SomeIn In l xs → SomeIn In k ys
        → AllIn In k ys ⊎ (Fringe (system_of m locations) is_in (number_of m l xs) × Fringe (system_of m locations) is_in (number_of m k ys))
    unfolding system_of
    flows {l} {k} {xs} {ys} t s s' = by (side l xs (flow_allowed m locations W t).0 s) (side k ys (flow_allowed m locations W t).1 s')
      where
        there : is_in (number_of m k ys) ≡ true → AllIn In k ys
        there = corners_in k ys (some_below k ys s') (flow_allowed m locations W t).1

        by : (is_in (number_of m l xs) ≡ true) ⊎ Fringe (system_of m locations) is_in (number_of m l xs)
            → (is_in (number_of m k ys) ≡ true) ⊎ Fringe (system_of m locations) is_in (number_of m k ys)
            → AllIn In k ys ⊎ (Fringe (system_of m locations) is_in (number_of m l xs) × Fringe (system_of m locations) is_in (number_of m k ys))
        by (inl i) j = inl (there (K.flow_in (number_of m l xs) (number_of m k ys) i (is_flow m locations W (some_below l xs s) t)))
        by (inr f) (inl i) = inl (there i)
        by (inr f) (inr f') = inr (f, f')

    -- Ranks on numbers are ranks on states.
    ranked : (rank : ℕ → ℕ) (c : ℕ) → Ranks P is_in rank c → Ranked m In (λ l xs. rank (number_of m l xs)) c
    unfolding labelled_of system_of
    ranked rank c R = record { closed = closed; time = time; jump = jump; few = few }
      where
        time : (l : ℕ) (xs : Region) → Allowed m l xs → Allowed m l (successor xs) → SomeIn In l xs
            → AllIn In l (successor xs) ⊎ (rank (number_of m l (successor xs)) ≤ rank (number_of m l xs))
        time l xs a b s =
            ⊎_elim inl (λ (f, f'). inr (R.time (number_of m l xs) (number_of m l (successor xs)) f f' (time_leads l xs (some_below l xs s) a b)))
            (flows (Flow.time a b) s (some_time kept closed l xs b s))

        jump : (l : ℕ) (xs : Region) (g : Edge) → Enabled m g l xs → Allowed m l xs → Allowed m g.target (after g xs) → SomeIn In l xs
            → AllIn In g.target (after g xs) ⊎ (rank (number_of m g.target (after g xs)) < rank (number_of m l xs))
        jump l xs g o a b s =
            let (e, d) = jump_leads l xs g (some_below l xs s) o a b in
            ⊎_elim inl (λ (f, f'). inr (R.jump e (number_of m l xs) (number_of m g.target (after g xs)) f f' d))
            (flows (Flow.jump g o a b) s (some_jump kept closed l xs g o a b s))

        few : (l : ℕ) (v : List ℕ) → Entry m l v → Upto 2 0 1 v (m.invariant l) → SomeIn In l (halves v)
            → AllIn In l (halves v) ⊎ (rank (number_of m l (halves v)) < c)
        few l v i u s =
            let a = allowed_half kept l u in
            let b = some_below l (halves v) s in
            ⊎_elim (λ e. inl (corners_in l (halves v) b a e))
            (λ f. inr (R.few (number_of m l (halves v)) (number_below m locations l b a.region) f)) (side l (halves v) a s)

    pub ranks_forever : (rank : ℕ → ℕ) (c : ℕ) → Ranks P is_in rank c → RobustlySafe m (span c + m.clocks)
    unfolding system_of
    ranks_forever rank c R = ranked_forever kept (ranked rank c R) (λ l v. inside_clean m locations W kept is_in K.none_forbidden l (point v))

  -- So a sheet that passes, given by its numbers after the first, gives a margin:
  module _ (l : List ℕ) (e : sheet_test (system_of m locations) l ≡ true) where
    sheet : Sheet (system_of m locations) l
    sheet = (sheet_law (system_of m locations) (system_laws m locations W kept) l).0 e

    low : (p : ℕ) → p < (system_of m locations).size → height_of l p < (system_of m locations).size
    low p b = let h = sheet.bounded p b in omega arith

    -- by the walks through its fringe,
    pub sheet_margin_lem : RobustlySafe m (sheet_margin m locations l)
    unfolding sheet_margin labelled_of
    sheet_margin_lem =
        ranks_forever (in_of l) (height_of l) sheet.rules (jumps_from P (in_of l) P.system.size) (fringe_entries P (in_of l))
        (jumps_ranks P (labelled_laws m locations W kept) (in_of l) (height_of l) sheet.rules low)

    -- where c is one more than the most jumps of such a walk, or 0;
    pub sheet_entries : IsFringeEntries P (in_of l) (fringe_entries P (in_of l))
    unfolding labelled_of
    sheet_entries = entries_law P (labelled_laws m locations W kept) (in_of l) (height_of l) sheet.rules low

    pub entries_margin : (c : ℕ) → IsFringeEntries P (in_of l) c → RobustlySafe m (span c + m.clocks)
    unfolding sheet_margin
    entries_margin c i = rw (entries_unique i sheet_entries) sheet_margin_lem

    -- and by its greatest height, which gives no less.
    pub margin_height : sheet_margin m locations l ≤ height_margin m locations l
    unfolding sheet_margin height_margin labelled_of system_of
    margin_height =
        let H = top (state_count m locations) (height_of l) in
        let R = heights_ranks P (labelled_laws m locations W kept) (in_of l) (height_of l) sheet.rules H (top_ge (state_count m locations) (height_of l)) in
        omega (arith, entries_ranks (system_laws m locations W kept) R sheet_entries)

    pub sheet_height_margin : RobustlySafe m (height_margin m locations l)
    sheet_height_margin = robust_below margin_height sheet_margin_lem

  -- Where no marked state is forbidden, our sheet does.
  pub our_margin_lem : unsafe (system_of m locations) ≡ false → RobustlySafe m (sheet_margin m locations (our_sheet (system_of m locations)))
  our_margin_lem e =
      let L = system_laws m locations W kept in
      sheet_margin_lem (our_sheet (system_of m locations)) (sheet_complete (system_of m locations) L (safe_is (system_of m locations) L e))
