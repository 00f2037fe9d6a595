-- Our trail and our closed walks are the least. 01: "The step count that our trail carries is at most that of every other passing trail of the
-- model (a walk not counted); of those with as few, ours is the least in state numbers read from the start, then in kinds, then in edges. Its
-- walks are chosen alike."
use mathlib.Core.Path.{◌≡◌, sym, ◌∙◌}
use mathlib.Core.Bool.{true}
use mathlib.Core.List.{List, map, ◌++◌}
use Prim.Native.Nat.{ℕ}
use native.Mathlib.Omega.{arith}
use Rattle.theory.specs.Walk.{Lex}
use Rattle.theory.specs.Labels.{LabelledSystem, LabelledLaws, label_kind, label_edge, walk_states, closes, walk_key, closed_walk_labels}
use Rattle.theory.specs.Replay.{Move, move_kind, move_edge, replay_states, passes, trail_key, our_moves}
use Rattle.theory.proofs.Lex.{lex_antisym, lex_head, lex_append, Before, Pairs, pairs_kinds, pairs_edges}
use Rattle.theory.proofs.ClosedWalk.{closed_walk_fewest, closed_walk_least}
use Rattle.theory.proofs.Labels.{closes_law, walk_states-length, closed_label_below, label_walk_flow, closed_label_walk, closed_labels_length, closed_labels_states, closed_labels_close, closed_labels_before}
use Rattle.theory.proofs.Trail.{trail_fewest, trail_least}
use Rattle.theory.proofs.Replay.{passes_law, replay_states-length, passes_trail, our_moves_pass, our_moves-length, our_moves_states, our_moves_before}

-- kinds, then edges, where these are at each place the least
kinds_then_edges : {A : Type 0} (kind edge : A → ℕ) {l m : List A} → Pairs (Before kind edge) l m
    → Lex (map kind l ++ map edge l) (map kind m ++ map edge m)
kinds_then_edges kind edge w = lex_append (pairs_kinds kind edge w) (pairs_edges kind edge w)

module _ (P : LabelledSystem) (M : LabelledLaws P) where
  -- of all closed walks of labels from a state, ours has the least key
  pub our_walk_least : (q : ℕ) (xs : List ℕ) → closes P xs q ≡ true
      → Lex (walk_key P (closed_walk_labels P q) q) (walk_key P xs q)
  unfolding walk_key
  our_walk_least q xs e =
      let (k, w) = (closes_law P xs q).0 e in
      let o = closed_label_walk P M xs q (k, w) in
      let v = label_walk_flow P M (closed_label_below P k w) w in
      let c = closed_labels_length P M q in
      let n = walk_states-length P xs q in
      lex_head (omega (arith, c, n, closed_walk_fewest P.system M.laws q (walk_states P xs q) (omega (arith, n)) v)) λ d.
      rw (closed_labels_states P M q o)
      (lex_append (closed_walk_least P.system M.laws q (walk_states P xs q) v (n ∙ sym d ∙ c)) λ h.
      kinds_then_edges label_kind label_edge (closed_labels_before P q xs w h))

  -- of all trails that pass, ours has the least key
  pub our_trail_least : (ms : List Move) → passes P ms ≡ true → Lex (trail_key P (our_moves P)) (trail_key P ms)
  unfolding trail_key
  our_trail_least ms e =
      let (s, w, b) = (passes_law P ms).0 e in
      let l = replay_states P ms P.system.start in
      let t = passes_trail P M ms (s, w, b) in
      let c = our_moves-length P M l t in
      let n = replay_states-length P ms P.system.start in
      lex_head (omega (arith, c, n, trail_fewest P.system M.laws l t)) λ d.
      rw (our_moves_states P M l t)
      (lex_append (trail_least P.system M.laws l t (n ∙ sym d ∙ c)) λ h.
      kinds_then_edges move_kind move_edge (our_moves_before P M w h))

  -- a closed walk or a trail that is least has the key of ours
  pub our_walk_only : (q : ℕ) (xs : List ℕ) → closes P xs q ≡ true
      → ((ys : List ℕ) → closes P ys q ≡ true → Lex (walk_key P xs q) (walk_key P ys q))
      → walk_key P xs q ≡ walk_key P (closed_walk_labels P q) q
  our_walk_only q xs e least =
      let o = closed_label_walk P M xs q ((closes_law P xs q).0 e) in
      lex_antisym (least (closed_walk_labels P q) ((closes_law P (closed_walk_labels P q) q).1 (closed_labels_close P M q o))) (our_walk_least q xs e)

  pub our_trail_only : (ms : List Move) → passes P ms ≡ true
      → ((ns : List Move) → passes P ns ≡ true → Lex (trail_key P ms) (trail_key P ns))
      → trail_key P ms ≡ trail_key P (our_moves P)
  our_trail_only ms e least =
      let t = passes_trail P M ms ((passes_law P ms).0 e) in
      let o = our_moves_pass P M (replay_states P ms P.system.start) t in
      lex_antisym (least (our_moves P) ((passes_law P (our_moves P)).1 o)) (our_trail_least ms e)
