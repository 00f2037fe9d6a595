-- The steps of the pass back from the current node, from what the functions called ensure.
use mathlib.Core.Path.{◌≡◌, sym, ap, ◌∙◌}
use mathlib.Core.Bool.{true}
use mathlib.Core.List.{List}
use Prim.Native.Nat.{ℕ, suc, ◌+◌, ◌-◌, ◌<◌}
use native.Mathlib.Decide.{ℕ_discrete}
use native.Mathlib.Omega.{arith}
use lib.ListN.{length}
use Rattle.component.specs.Graph.{graph_of}
use Rattle.component.specs.Stack.{at, Open, Explored, Stack}
use Rattle.component.specs.Scan.{Low, Merged}
use Rattle.component.specs.Pass.{Entered, Pass, NoNew, Moved, Popped}
use Rattle.component.proofs.GraphLaws.{place_in}
use Rattle.component.proofs.PassLaws.{into, path_node, cursor_kept}
use Rattle.component.proofs.Stack as laws

module _ {first targets mark stack path start : List ℕ} {n top segs depth cur : ℕ}
    (P : Pass first targets n mark stack path start top segs depth cur) (pos : 0 < depth) where
  -- ---- the node before the current one on the path

  pub entered : (i : ℕ) → i + 2 ≡ depth - 1 → Entered targets mark path i
  entered i e =
      let (s, f) = P.edges i (omega arith) in
      let l : suc i < depth = omega arith in
      let g = P.state.mark (P.pa (suc i)) (P.state.path (suc i) l) in
      let k : at path i - 1 < at first (suc (at stack (P.pa i))) = omega (arith, (P.cursors i (omega arith)).to) in
      record {
        some = s;
        place = place_in first targets n P.shape (at stack (P.pa i)) (at path i - 1) (path_node P i (omega arith)) k;
        node = omega (arith, path_node P (suc i) l, P.marks);
        on = omega (arith, ap (at mark) f);
      }

  -- the first node of the path stands at place 0
  path_first : P.pa 0 ≡ 0
  path_first = by (P.state.starts 0 some)
    where
      some : 0 < segs
      some = laws.segs_some cur P.state pos (P.here pos)

      by : Open P.pa depth (at start 0) → P.pa 0 ≡ 0
      by (j, l, e) = at_0 (ℕ_discrete j 0)
        where
          at_0 : Dec (j ≡ 0) → P.pa 0 ≡ 0
          at_0 (yes q) = ap P.pa (sym q) ∙ e ∙ P.state.base some
          at_0 (no q) = absurd (omega (arith, P.state.rises 0 j (omega arith) l, P.state.base some))

  module _ (r : ℕ) (low : depth - 1 < 2 → r ≡ 0) (high : (i : ℕ) → i + 2 ≡ depth - 1 → suc r ≡ at mark (at targets (at path i - 1))) where
    before_is : 0 < depth - 1 → P.pa (depth - 1 - 1) ≡ r
    before_is more = by (ℕ_discrete depth 2)
      where
        by : Dec (depth ≡ 2) → P.pa (depth - 1 - 1) ≡ r
        by (yes e) = let f : depth - 1 - 1 ≡ 0 = omega arith in ap P.pa f ∙ path_first ∙ sym (low (omega arith))
        by (no e) =
            let i = depth - 3 in
            let l : suc i < depth = omega arith in
            let g = P.state.mark (P.pa (suc i)) (P.state.path (suc i) l) in
            let f : depth - 1 - 1 ≡ suc i = omega arith in
            let h : P.pa (suc i) ≡ r = omega (arith, high i (omega arith), ap (at mark) (P.edges i l).1) in
            ap P.pa f ∙ h

    module _ (segs' w : ℕ) (old : (t : ℕ) → (graph_of first targets n).flow (at stack cur) t ≡ true → at mark t ≡ 0 → ⊥)
        (L : Low (graph_of first targets n) (at mark) (at stack cur) top w) (M : Merged (at start) segs w segs') where
      lower : Stack (graph_of first targets n) n (at mark) (at stack) P.pa (at start) top segs' depth
      lower = laws.merge cur P.state pos (P.here pos) (into P) w segs' L M

      explored : Explored (graph_of first targets n) n (at mark) (at stack) (at start) top segs' cur
      explored = laws.merge_explored cur P.state pos (P.here pos) (into P) w segs' L M old

      -- back, with the segment left on the stack
      pub pass_back : (at start (segs' - 1) ≡ cur → ⊥) → Pass first targets n mark stack path start top segs' (depth - 1) r
      pass_back no_start =
          record {
            shape = P.shape;
            marks = P.marks;
            stacks = P.stacks;
            paths = P.paths;
            begins = P.begins;
            pa = P.pa;
            state = laws.back cur lower pos (P.here pos) explored no_start;
            here = before_is;
            cursors = λ i l. P.cursors i (omega arith);
            edges = λ i l. P.edges i (omega arith);
          }

      pub pass_back_moved : Moved n mark mark depth (depth - 1)
      pass_back_moved = record { falls = omega arith; kept = λ s l e. e }

      -- back, with the segment popped
      module _ (mark' : List ℕ) (len : length mark' ≡ length mark) (start_cur : at start (segs' - 1) ≡ cur)
          (O : Popped (graph_of first targets n) n (at mark) (at mark') (at stack) cur top w) where
        popped_kept : NoNew n mark mark'
        popped_kept = laws.no_new cur lower pos (P.here pos) (into P) explored start_cur w O.h L O.most O.filled

        pub pass_pop : Pass first targets n mark' stack path start cur (segs' - 1) (depth - 1) r
        pass_pop =
            record {
              shape = P.shape;
              marks = omega (arith, P.marks);
              stacks = P.stacks;
              paths = P.paths;
              begins = P.begins;
              pa = P.pa;
              state = laws.pop cur lower pos (P.here pos) (into P) explored start_cur w O.h L O.most O.filled;
              here = before_is;
              cursors = λ i l. cursor_kept P.shape (path_node P i (omega arith)) popped_kept (P.cursors i (omega arith));
              edges = λ i l. P.edges i (omega arith);
            }

        pub pass_pop_moved : Moved n mark mark' depth (depth - 1)
        pass_pop_moved =
            record {
              falls = omega (arith, laws.no_more cur lower pos (P.here pos) (into P) explored start_cur w O.h L O.most O.filled);
              kept = popped_kept;
            }
