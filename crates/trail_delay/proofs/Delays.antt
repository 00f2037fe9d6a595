-- The numbers of the moves of our trail, move by move.
use mathlib.Core.Path.{◌≡◌, refl, ap, ap₂, subst, ◌∙◌}
use mathlib.Core.Bool.{Bool, true}
use mathlib.Core.List.{List, ◌∷◌}
use Prim.Native.Nat.{ℕ, ◌+◌, ◌*◌, ◌≤◌, ◌<◌}
use native.Mathlib.Nat.{zero-add}
use native.Mathlib.Numerals.{add-one}
use native.Mathlib.Omega.{arith}
use lib.ListN.{length, length-take, get_or, take, drop}
use lib.Seq.{drop-cons}
use Rattle.limits.specs.Limits.{max_clocks, max_states}
use Rattle.theory.specs.Adjacency.{Holds}
use Rattle.theory.specs.Region.{top_rank}
use Rattle.theory.specs.StateGraph.{region_of, labelled_of}
use Rattle.theory.specs.System.{on_closed_walk}
use Rattle.theory.specs.Marked.{step, unsafe}
use Rattle.theory.specs.Trail.{trail_states}
use Rattle.theory.specs.Labels.{label_kind, labels_along, closed_walk_labels}
use Rattle.theory.specs.Replay.{flow_by, face_to, touch_to, our_move, moves_along, our_moves}
use Rattle.region.specs.declared.Region.{Region}
use Rattle.region.specs.View.{view, Known}
use Rattle.region.proofs.Views.{top_view}
use Rattle.region.proofs.Known.{known_small}
use Rattle.model.specs.declared.Model.{Model}
use Rattle.model.specs.Model.{Lawful}
use Rattle.graph.specs.Plan.{automaton_of, system_of_model, labelled_of_model}
use Rattle.graph.specs.States.{states}
use Rattle.graph.proofs.States.{clocks_of, ceiling_of}
use Rattle.robust.specs.Delay.{jump_count, turns_base, turns_rate, move_base, move_rate, trail_base, trail_rate}
use Rattle.closed_walk.specs.Closes.{Closes}
use Rattle.trail_writer.specs.Lent.{WalkRoom, LeadsThrough}
use Rattle.trail_writer.proofs.Moves.{size_few, count_few, nodes_are, leads_next, trail_few, trail_leads}
use Rattle.trail_delay.specs.declared.Delay.{Delay}
use Rattle.trail_delay.specs.Ours.{max_move_jumps, FewJumps, move_delay, delay_of, our_delay}
use Rattle.trail_delay.proofs.Sums.{Additive, sum_next, sum_done}

abbrev delay : ℕ → ℕ → Delay
delay b r = record { base = b; rate = r }

module _ (m : Model) (ok : Lawful m) where
  -- ---- a touch

  module _ (q : ℕ) where
    module _ (g : Region) (k : Known m.clocks m.ceiling g) where
      pub rank_is : view m.clocks g ≡ region_of (automaton_of m) q → top_rank (view max_clocks g) ≡ top_rank (region_of (automaton_of m) q)
      rank_is e = top_view m.clocks (clocks_of m ok) g k.padded ∙ ap top_rank e

      pub rank_few : top_rank (view max_clocks g) ≤ max_clocks
      rank_few =
          let small = known_small m.clocks m.ceiling (clocks_of m ok) (ceiling_of m ok) g k in
          omega (arith, small.r1, small.r2, small.r3)

    module _ (o : on_closed_walk (system_of_model m) q ≡ true) {table first targets path : List ℕ} {level queue walk count : ℕ}
        (R : WalkRoom m table first targets level queue walk) (C : (r : ℕ → ℕ → Bool) → Holds first targets level r → Closes level r q count path) where
      pub walk_few : length (take count path) ≤ max_states
      walk_few = omega (arith, length-take count path, count_few m ok q o R C, size_few m ok)

      pub jumps_are : jump_count (labels_along (labelled_of_model m) q (take count path)) ≡ jump_count (closed_walk_labels (labelled_of_model m) q)
      unfolding closed_walk_labels labelled_of
      jumps_are = ap (λ (l : List ℕ). jump_count (labels_along (labelled_of_model m) q l)) (nodes_are m ok q o R C)

    pub touch_delay : (d : Delay) (rank jumps : ℕ) (xs : List ℕ) → d.base ≡ turns_base rank * jumps → d.rate ≡ turns_rate rank * jumps
        → rank ≡ top_rank (region_of (automaton_of m) q) → jumps ≡ jump_count xs → d ≡ move_delay m (touch_to q xs)
    unfolding move_delay move_base move_rate
    touch_delay d rank jumps xs b r g j = ap₂ delay (b ∙ rw (g, j) refl) (r ∙ rw (g, j) refl)

  -- ---- a move, by its kind

  pub flow_delay : (x k : ℕ) → k ≡ label_kind x → delay k 0 ≡ move_delay m (flow_by x)
  unfolding move_delay move_base move_rate
  flow_delay x k f = rw f refl

  pub face-delay : (q : ℕ) → delay 0 0 ≡ move_delay m (face_to q)
  unfolding move_delay move_base move_rate
  face-delay q = refl

-- ---- the trail: i of the path's states are passed, p is the last of them

module _ (m : Model) where
  base_adds : Additive (λ p l. trail_base (automaton_of m) (moves_along (labelled_of_model m) p l))
      (λ p q. move_base (automaton_of m) (our_move (labelled_of_model m) p q))
  unfolding trail_base moves_along
  base_adds = record { none = λ p. refl; more = λ p q l. refl }

  rate_adds : Additive (λ p l. trail_rate (automaton_of m) (moves_along (labelled_of_model m) p l))
      (λ p q. move_rate (automaton_of m) (our_move (labelled_of_model m) p q))
  unfolding trail_rate moves_along
  rate_adds = record { none = λ p. refl; more = λ p q l. refl }

pub record Summed (m : Model) (path : List ℕ) (base rate p i : ℕ) : Type 0 where
  pub long : length path ≤ max_states
  pub leads : LeadsThrough m p (drop i path)
  pub base_few : base ≤ max_move_jumps * i
  pub rate_few : rate ≤ max_move_jumps * i
  pub base_rest : base + trail_base (automaton_of m) (moves_along (labelled_of_model m) p (drop i path)) ≡ (our_delay m).base
  pub rate_rest : rate + trail_rate (automaton_of m) (moves_along (labelled_of_model m) p (drop i path)) ≡ (our_delay m).rate

pub summed_none : (m : Model) → Lawful m → (path : List ℕ) (start : ℕ) → unsafe (system_of_model m) ≡ true → path ≡ trail_states (system_of_model m)
    → start ≡ (system_of_model m).start → Summed m path 0 0 start 0
unfolding our_delay delay_of our_moves labelled_of
summed_none m ok path start u e s =
    rw (e, s)
    (record {
      long = omega (arith, trail_few m ok u, size_few m ok);
      leads = trail_leads m ok u;
      base_few = omega arith;
      rate_few = omega arith;
      base_rest = zero-add _;
      rate_rest = zero-add _;
    })

module _ {m : Model} {path : List ℕ} {base rate p i : ℕ} (M : Summed m path base rate p i) where
  module _ (ok : Lawful m) (q : ℕ) (h : i < length path) (s : q ≡ get_or path i 0) where
    next : (step (system_of_model m) p q ≡ true) × LeadsThrough m q (drop (i + 1) path)
    next =
        let d : drop i path ≡ q ∷ drop (i + 1) path = rw (s, add-one) (drop-cons path i 0 h) in
        leads_next m ok (subst (LeadsThrough m p) d M.leads)

    pub summed_step : (p < states m) × (q < states m) × (step (system_of_model m) p q ≡ true)
    summed_step = (M.leads.below, next.1.below, next.0)

    pub summed_next : (d : Delay) → d ≡ move_delay m (our_move (labelled_of_model m) p q) → FewJumps d
        → Summed m path (base + d.base) (rate + d.rate) q (i + 1)
    unfolding move_delay
    summed_next d e f =
        record {
          long = M.long;
          leads = next.1;
          base_few = omega (arith, M.base_few, f.base);
          rate_few = omega (arith, M.rate_few, f.rate);
          base_rest = rw e (sum_next (base_adds m) path (our_delay m).base base p i M.base_rest q h s);
          rate_rest = rw e (sum_next (rate_adds m) path (our_delay m).rate rate p i M.rate_rest q h s);
        }

  pub summed_all : length path ≤ i → delay base rate ≡ our_delay m
  summed_all h =
      ap₂ delay (sum_done (base_adds m) path (our_delay m).base base p i M.base_rest h)
      (sum_done (rate_adds m) path (our_delay m).rate rate p i M.rate_rest h)
