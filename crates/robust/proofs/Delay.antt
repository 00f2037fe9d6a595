-- How soon drift does harm: along a trail that passes a widened run enters a forbidden location, within trail_base + trail_rate * q jumps.
use mathlib.Core.Path.{◌≡◌, refl}
use mathlib.Core.List.{List, [], ◌∷◌}
use mathlib.Core.Bool.{true}
use Prim.Native.Nat.{ℕ, zero, suc, ◌+◌, ◌*◌, ◌≤◌, ◌<◌}
use native.Mathlib.Nat.{mul-le-mul_right, mul-le-mul_left, le_of_mul-le-mul_right}
use native.Mathlib.Omega.{arith}
use lib.ListN.{length}
use Rattle.theory.specs.Pointwise.{Each}
use Rattle.theory.specs.Automaton.{Automaton, Edge, Capped, Upto, AtLeast, Run}
use Rattle.theory.specs.Region.{Region, Lawful, Shares, face, shares, top_rank, successor}
use Rattle.theory.specs.RegionGraph.{Allowed, Flow, FlowWalk, Step, after}
use Rattle.theory.specs.Labels.{Leads, LabelWalk, empty, label, label_kind}
use Rattle.theory.specs.Replay.{Move, MoveReplays, flow_replays, face_replays, touch_replays, Replay, done, then, passes}
use Rattle.theory.specs.StateGraph.{Within, location_of, region_of, number_of, edge_at, system_of, labelled_of, step_from}
use Rattle.theory.proofs.Region.{face_law, shares_law}
use Rattle.theory.proofs.Replay.{passes_law}
use Rattle.theory.proofs.StateGraph.{location_of_number, region_of_number, allowed_state_law, time_law, jump_law, edge_drawn, beside_law, start_allowed}
use Rattle.robust.specs.Delay.{FragileWithin, jump_count, move_base, move_rate, trail_base, trail_rate}
use Rattle.robust.specs.Robust.{Fragile, LoopsReset}
use Rattle.robust.proofs.Blend.{Reach, reach_more, jumps}
use Rattle.robust.proofs.Loop.{WalksReset, walks_reset, word}
use Rattle.robust.proofs.Drift.{turns_of, Reached, flow_cost, reached_start, reached_step}

-- so every drift above 0 does harm
pub within_fragile : {m : Automaton} {most : ℕ → ℕ} → FragileWithin m most → Fragile m
within_fragile F =
    record {
      enters_some = λ e D some pos.
          let less : D * 1 ≤ D * e = mul-le-mul_left D (omega arith) in
          let (N, wait, gs, l, v, t, r, x, few) = F.enters_some e D D pos (omega arith) in
          (N, wait, gs, l, v, t, r, x);
    }

-- ---- a run with drift 1/q is one with drift e/D, where D is at most q * e

module _ (N e D q : ℕ) (some : 0 < q) (less : D ≤ q * e) where
  wider : N * D ≤ N * (q * e)
  wider = mul-le-mul_left N less

  high : (x c : ℕ) → x * q ≤ (c * q + 1) * N → x * D ≤ (c * D + e) * N
  high x c h =
      let a : x * q * D ≤ (c * q + 1) * N * D = mul-le-mul_right D h in
      let b : x * D * q ≤ (c * D + e) * N * q = omega (arith, wider) in
      le_of_mul-le-mul_right b some

  low : (x c : ℕ) → c * q * N ≤ x * q + 1 * N → c * D * N ≤ x * D + e * N
  low x c h =
      let a : c * q * N * D ≤ (x * q + 1 * N) * D = mul-le-mul_right D h in
      let b : c * D * N * q ≤ (x * D + e * N) * q = omega (arith, wider) in
      le_of_mul-le-mul_right b some

  highs : {v cs : List ℕ} → Upto N 1 q v cs → Upto N e D v cs
  highs Each.none = Each.none
  highs (Each.more {x = x} {c = c} h hs) = Each.more (high x c h) (highs hs)

  lows : {v cs : List ℕ} → AtLeast N 1 q v cs → AtLeast N e D v cs
  lows Each.none = Each.none
  lows (Each.more {x = x} {c = c} h hs) = Each.more (low x c h) (lows hs)

  pub slower : {m : Automaton} {gs : List Edge} {l t : ℕ} {v : List ℕ} → Run m N 1 q gs l v t → Run m N e D gs l v t
  slower (Run.begin h) = Run.begin (highs h)
  slower (Run.step r d g o) =
      Run.step (slower r) d g record {
        drawn = o.drawn;
        here = o.here;
        stays = highs o.stays;
        low = lows o.low;
        high = highs o.high;
        enters = highs o.enters;
      }

-- ---- the moves of a trail, on states

module _ (m : Automaton) (locations : ℕ) (W : Within m locations) (kept : Capped m) where
  -- a walk with J jumps
  abbrev Walked : ℕ → Region → ℕ → Region → ℕ → ℕ → Type 0
  Walked l xs k ys n J = (w : FlowWalk m l xs k ys n) × (jumps (word w) ≡ J)

  -- a step by its label: time for 0, a jump for others
  label_step : (x p q : ℕ) → Leads (labelled_of m locations) x p q
      → (k : ℕ) × (ys : Region) × (q ≡ number_of m k ys) × Lawful m.clocks m.ceiling ys
      × (f : Flow m (location_of m p) (region_of m p) k ys) × (flow_cost f ≡ label_kind x)
  unfolding labelled_of system_of step_from label_kind
  label_step zero p q (b, e, c) =
      let (t, a, n) = (time_law m locations p q).0 (e, c) in
      (location_of m p, successor (region_of m p), n, a.region, Flow.time ((allowed_state_law m locations p).0 t).1 a, refl)
  label_step (suc x) p q (b, e, c) =
      let drawn = edge_drawn m locations m.edges x (omega arith) in
      let (t, o, a, n) = (jump_law m locations x p q (omega arith) (W.targets (edge_at m x) drawn)).0 (e, c) in
      ((edge_at m x).target, after (edge_at m x) (region_of m p), n, a.region, Flow.jump (edge_at m x) o ((allowed_state_law m locations p).0 t).1 a, refl)

  one_more : {l k l' n J : ℕ} {xs ys zs : Region} (f : Flow m l xs k ys) → Walked k ys l' zs n J → Walked l xs l' zs (suc n) (flow_cost f + J)
  one_more (Flow.time a b) (w, h) = (FlowWalk.move (Flow.time a b) w, omega arith)
  one_more (Flow.jump g o a b) (w, h) = (FlowWalk.move (Flow.jump g o a b) w, omega arith)

  label_walk : {p s : ℕ} {xs : List ℕ} → LabelWalk (labelled_of m locations) p s xs
      → Walked (location_of m p) (region_of m p) (location_of m s) (region_of m s) (length xs) (jump_count xs)
  unfolding jump_count
  label_walk empty = (FlowWalk.stop, refl)
  label_walk (label {p = p} {q = q} {x = x} {xs = xs} d w) =
      let (k, ys, n, a, f, e) = label_step x p q d in
      rw e at (one_more f (rw (n, location_of_number m k a, region_of_number m k a) at (label_walk w)))

  module _ (ok : WalksReset m) (D e : ℕ) (some : 0 < e) where
    abbrev At : ℕ → ℕ → Type 0
    At K p = Reached m D e K (location_of m p) (region_of m p)

    -- a closed walk of labels, at least one
    turned : (p q K : ℕ) (xs : List ℕ) → Allowed m (location_of m p) (region_of m p) → Allowed m (location_of m p) (region_of m q)
        → Shares (region_of m p) (region_of m q) → location_of m p ≡ location_of m q → 1 ≤ length xs
        → Walked (location_of m q) (region_of m q) (location_of m q) (region_of m q) (length xs) (jump_count xs)
        → At K p → At (turns_of D (top_rank (region_of m q)) * jump_count xs + K) q
    turned p q K [] a b s c long w r = absurd (omega arith)
    turned p q K (x ∷ xs) a b s c long w r =
        let (w₁, h) = rw (← c) at w in
        rw (← c, ← h) (reached_step kept ok D e some {K = K} r (Step.touch a b s (length xs, w₁)))

    abbrev delay : Move → ℕ
    delay a = move_base m a + move_rate m a * D

    move_at : {K p q : ℕ} {a : Move} → MoveReplays (labelled_of m locations) p a q → At K p → At (delay a + K) q
    unfolding labelled_of system_of move_base move_rate
    move_at {K} {p} {q} (flow_replays {x = x} d) r =
        let (k, ys, n, a, f, h) = label_step x p q d in
        let same : label_kind x + 0 * D ≡ flow_cost f = omega arith in
        rw (n, location_of_number m k a, region_of_number m k a, same) (reached_step kept ok D e some {K = K} r (Step.flow f))
    move_at {K} {p} {q} (face_replays h) r =
        let (((b, a), (c, d)), (s, t)) = (beside_law m locations W face p q).0 h in
        let there = rw s at (reached_step kept ok D e some {K = K} r (Step.face a (rw s d) ((face_law (region_of m p) (region_of m q)).0 t))) in
        λ i. reach_more (omega arith) (there i)
    move_at {K} {p} {q} (touch_replays {xs = xs} h (long, w)) r =
        let (((b, a), (c, d)), (s, t)) = (beside_law m locations W shares p q).0 h in
        let there = turned p q K xs a (rw s d) ((shares_law (region_of m p) (region_of m q)).0 t) s long (label_walk w) r in
        λ i. reach_more (omega arith) (there i)

    follow : {K p s : ℕ} {ms : List Move} → Replay (labelled_of m locations) p s ms → At K p
        → (K' : ℕ) × (K' ≤ trail_base m ms + trail_rate m ms * D + K) × At K' s
    unfolding trail_base trail_rate
    follow {K} done r = (K, omega arith, r)
    follow {K} (then {q = q} {m = a} a₁ w) r =
        let (K', h, r') = follow {K = delay a + K} w (move_at {K = K} a₁ r) in
        (K', omega arith, r')

  -- Where a trail passes, drift e/D above 0 does harm within as many jumps as the trail says, with q from D / e on.
  pub trail_within : LoopsReset m → (ms : List Move) → passes (labelled_of m locations) ms ≡ true
      → FragileWithin m (λ q. trail_base m ms + trail_rate m ms * q)
  unfolding labelled_of system_of
  trail_within ok ms t =
      record {
        enters_some = λ e D q pos less.
            let some : 0 < q = positive e D q pos less in
            let (s, w, b) = (passes_law (labelled_of m locations) ms).0 t in
            let a = start_allowed kept m.start in
            let start = reached_start kept (walks_reset ok) q 1 (omega arith) in
            let (K, h, r) = follow (walks_reset ok) q 1 (omega arith) {K = 0} w
            (rw (location_of_number m m.start a.region, region_of_number m m.start a.region) start) in
            harm e D q K (trail_base m ms + trail_rate m ms * q) (location_of m s) some less (r 0) b (omega arith);
      }
    where
      positive : (e D q : ℕ) → 0 < D → D ≤ q * e → 0 < q
      positive e D zero pos less = absurd (omega arith)
      positive e D (suc q) pos less = omega arith

      harm : (e D q K k l : ℕ) {u : List ℕ} → 0 < q → D ≤ q * e → Reach m q 1 q K l u → m.forbidden l ≡ true → K ≤ k
          → (N : ℕ) × (0 < N) × (gs : List Edge) × (l : ℕ) × (v : List ℕ) × (t : ℕ) × Run m N e D gs l v t × (m.forbidden l ≡ true) × (length gs ≤ k)
      harm e D q K k l some less r b h =
          (q, some, r.edges, l, r.values, r.time, slower q e D q some less r.run, b, omega (arith, r.few))
