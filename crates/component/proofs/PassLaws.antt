-- The steps of the pass on the lent lists, from what the functions called ensure.
use mathlib.Core.Path.{◌≡◌, refl, sym, ap, ◌∙◌}
use mathlib.Core.Bool.{true, cond}
use mathlib.Core.List.{List}
use Prim.Native.Nat.{ℕ, zero, suc, ◌+◌, ◌-◌, ◌≤◌, ◌<◌}
use native.Mathlib.Decide.{ℕ_discrete}
use native.Mathlib.Numerals.{add-one}
use native.Mathlib.Omega.{arith}
use lib.Dec.{eqb}
use borrow.Author.Tests.{eq-eqb, ne_eqb}
use lib.ListN.{length, set, length-set}
use lib.Seq.{get_or-set_same, get_or-set_other}
use Rattle.theory.specs.System.{Reaches}
use Rattle.theory.proofs.Component.{reach_join, reach_one}
use Rattle.limits.specs.Limits.{max_steps}
use Rattle.component.specs.Marks.{GraphLists}
use Rattle.component.specs.Graph.{graph_of}
use Rattle.component.specs.Stack.{at, news, Open}
use Rattle.component.specs.Scan.{Cursor, NewPlace}
use Rattle.component.specs.Pass.{Pass, NoNew, Moved}
use Rattle.component.proofs.GraphLaws.{flow_below, is_flow, first_few, place_in, node_in}
use Rattle.component.proofs.Scans.{new_more, new_none}
use Rattle.component.proofs.Stack as laws

-- ---- lists

put : (l : List ℕ) (i x : ℕ) → i < length l → laws.Put (at l) (at (set l i x)) i x
put l i x k = record { now = get_or-set_same l i x 0 k; else = λ j n. get_or-set_other l i j x 0 n }

-- an ascending list of numbers is at least the one that counts
rise : (f : ℕ → ℕ) (n : ℕ) → ((i j : ℕ) → i < j → j < n → f i < f j) → (i : ℕ) → i < n → i ≤ f i
rise f n r zero l = omega arith
rise f n r (suc i) l = omega (arith, rise f n r i (omega arith), r i (suc i) (omega arith) l)

news_pos : (m : ℕ → ℕ) (n t : ℕ) → t < n → m t ≡ 0 → 0 < news m n
news_pos m n t l e = omega (arith, laws.news-lt m (λ s. 1) n t (λ s k z. absurd (omega arith)) l e (λ z. omega arith))

-- a function with one value changed
abbrev put_at : (ℕ → ℕ) → ℕ → ℕ → ℕ → ℕ
put_at f i x j = cond (eqb j i) x (f j)

put_at_lem : (f : ℕ → ℕ) (i x : ℕ) → laws.Put f (put_at f i x) i x
put_at_lem f i x = record { now = rw (eq-eqb i i refl); else = λ j n. rw (ne_eqb j i n) }

-- a node that was new has a mark
pub set_new : (mark : List ℕ) (t x n : ℕ) → at mark t ≡ 0 → NoNew n mark (set mark t x)
set_new mark t x n z s k e = by (ℕ_discrete s t)
  where
    by : Dec (s ≡ t) → at mark s ≡ 0
    by (yes q) = rw q z
    by (no q) = sym (get_or-set_other mark t s x 0 q) ∙ e

-- ---- cursors

module _ {first targets : List ℕ} {n v : ℕ} (H : GraphLists first targets n) (b : v < n) where
  -- a node with no successor passed
  cursor_first : (m : ℕ → ℕ) → Cursor first targets m v (at first v)
  cursor_first m = record { from = omega arith; to = H.ascends v b; old = λ j k l. absurd (omega arith) }

  -- where no node becomes new
  pub cursor_kept : {m m' : ℕ → ℕ} {i : ℕ} → ((s : ℕ) → s < n → m' s ≡ 0 → m s ≡ 0) → Cursor first targets m v i → Cursor first targets m' v i
  cursor_kept {i} f C =
      record {
        from = C.from;
        to = C.to;
        old = λ j k l z. C.old j k l (f (at targets j) (node_in first targets n H v j b (omega (arith, C.to))) z);
      }

cursor_as : {first targets : List ℕ} {m : ℕ → ℕ} {v v' i i' : ℕ} → v' ≡ v → i' ≡ i → Cursor first targets m v i → Cursor first targets m v' i'
cursor_as e f C = rw (e, f) C

-- ---- what a state gives

module _ {first targets mark stack path start : List ℕ} {n top segs depth cur : ℕ}
    (P : Pass first targets n mark stack path start top segs depth cur) where
  pub into : (s t : ℕ) → (graph_of first targets n).flow s t ≡ true → t < n
  into = flow_below first targets n P.shape

  pub top_le : top ≤ n
  top_le = omega (arith, P.state.room)

  pub node_of : (p : ℕ) → p < top → at stack p < n
  node_of p l = P.state.node p l

  pub path_node : (i : ℕ) → i < depth → at stack (P.pa i) < n
  path_node i l = node_of (P.pa i) (P.state.path i l)

  -- with nothing on the path the stack is empty
  pub empty : depth ≡ 0 → (top ≡ 0) × (segs ≡ 0)
  empty z = let e : segs ≡ 0 = go (ℕ_discrete segs 0) in (P.state.none e, e)
    where
      go : Dec (segs ≡ 0) → segs ≡ 0
      go (yes q) = q
      go (no q) = let o : Open P.pa depth (at start 0) = P.state.starts 0 (omega arith) in absurd (omega (arith, o.1))

  pub depth_le : depth ≤ top
  depth_le = go (ℕ_discrete depth 0)
    where
      go : Dec (depth ≡ 0) → depth ≤ top
      go (yes q) = omega arith
      go (no q) = omega (arith, rise P.pa depth P.state.rises (depth - 1) (omega arith), P.state.path (depth - 1) (omega arith))

  pub segs_le : segs ≤ top
  segs_le = go (ℕ_discrete segs 0)
    where
      go : Dec (segs ≡ 0) → segs ≤ top
      go (yes q) = omega arith
      go (no q) =
          let o : Open P.pa depth (at start (segs - 1)) = P.state.starts (segs - 1) (omega arith) in
          omega (arith, rise (at start) segs P.state.climbs (segs - 1) (omega arith), P.state.path o.0 o.1, o.2)

  -- room for one more, where there is a new node
  pub top_lt : (t : ℕ) → t < n → at mark t ≡ 0 → top < n
  top_lt t l z = omega (arith, P.state.room, news_pos (at mark) n t l z)

  -- ---- a push of t, with the last cursor of the path moved behind t

  module _ (t : ℕ) (l : t < n) (z : at mark t ≡ 0) (from : (p : ℕ) → p < top → Reaches (graph_of first targets n) (at stack p) t)
      (path₁ : List ℕ) (len : length path₁ ≡ n) (same : (i : ℕ) → suc i < depth → at path₁ i ≡ at path i)
      (moved : (i : ℕ) → suc i ≡ depth
      → Cursor first targets (at (set mark t (top + 1))) (at stack (P.pa i)) (at path₁ i)
      × (0 < at path₁ i)
      × (at targets (at path₁ i - 1) ≡ t)) where
    pa' : ℕ → ℕ
    pa' = put_at P.pa depth top

    put_mark : laws.Put (at mark) (at (set mark t (top + 1))) t (top + 1)
    put_mark = put mark t (top + 1) (omega (arith, P.marks))

    put_stack : laws.Put (at stack) (at (set stack top t)) top t
    put_stack = put stack top t (omega (arith, P.stacks, top_lt t l z))

    put_path : laws.Put (at path₁) (at (set path₁ depth (at first t))) depth (at first t)
    put_path = put path₁ depth (at first t) (omega (arith, top_lt t l z, depth_le))

    put_pa : laws.Put P.pa pa' depth top
    unfolding pa'
    put_pa = put_at_lem P.pa depth top

    -- the node at an old place of the path
    node_old : (i : ℕ) → i < depth → at (set stack top t) (pa' i) ≡ at stack (P.pa i)
    node_old i k =
        ap (at (set stack top t)) (put_pa.else i (λ e. omega arith)) ∙ put_stack.else (P.pa i) (λ e. omega (arith, P.state.path i k))

    node_new : at (set stack top t) (pa' depth) ≡ t
    node_new = ap (at (set stack top t)) put_pa.now ∙ put_stack.now

    cursors' : (i : ℕ) → i < depth + 1
        → Cursor first targets (at (set mark t (top + 1))) (at (set stack top t) (pa' i)) (at (set path₁ depth (at first t)) i)
    cursors' i k = go (ℕ_discrete i depth) (ℕ_discrete (suc i) depth)
      where
        go : Dec (i ≡ depth) → Dec (suc i ≡ depth)
            → Cursor first targets (at (set mark t (top + 1))) (at (set stack top t) (pa' i)) (at (set path₁ depth (at first t)) i)
        go (yes e) d = rw e (cursor_as node_new put_path.now (cursor_first P.shape l (at (set mark t (top + 1)))))
        go (no e) (yes d) = cursor_as (node_old i (omega arith)) (put_path.else i e) (moved i d).0
        go (no e) (no d) =
            cursor_as (node_old i (omega arith)) (put_path.else i e ∙ same i (omega arith))
            (cursor_kept P.shape (path_node i (omega arith)) (set_new mark t (top + 1) n z) (P.cursors i (omega arith)))

    edges' : (i : ℕ) → suc i < depth + 1
        → (0 < at (set path₁ depth (at first t)) i) × (at targets (at (set path₁ depth (at first t)) i - 1) ≡ at (set stack top t) (pa' (suc i)))
    edges' i k = go (ℕ_discrete (suc i) depth)
      where
        still : at (set path₁ depth (at first t)) i ≡ at path₁ i
        still = put_path.else i (λ e. omega arith)

        go : Dec (suc i ≡ depth)
            → (0 < at (set path₁ depth (at first t)) i) × (at targets (at (set path₁ depth (at first t)) i - 1) ≡ at (set stack top t) (pa' (suc i)))
        go (yes e) =
            let (c, p, q) = moved i e in
            (omega (arith, still), ap (λ x. at targets (x - 1)) still ∙ q ∙ sym node_new ∙ ap (λ x. at (set stack top t) (pa' x)) (sym e))
        go (no e) =
            let (p, q) = P.edges i (omega arith) in
            let f : at (set path₁ depth (at first t)) i ≡ at path i = still ∙ same i (omega arith) in
            (omega arith, ap (λ x. at targets (x - 1)) f ∙ q ∙ sym (node_old (suc i) (omega arith)))

    pub pass_push : Pass first targets n (set mark t (top + 1)) (set stack top t) (set path₁ depth (at first t)) (set start segs top)
        (top + 1) (segs + 1) (depth + 1) top
    pass_push =
        record {
          shape = P.shape;
          marks = rw length-set P.marks;
          stacks = rw length-set P.stacks;
          paths = rw length-set len;
          begins = rw length-set P.begins;
          pa = pa';
          state =
              laws.push P.state l z from put_mark put_stack put_pa
              (put start segs top (omega (arith, P.begins, top_lt t l z, segs_le)));
          here = λ k. let e : depth + 1 - 1 ≡ depth = omega arith in ap pa' e ∙ put_pa.now;
          cursors = cursors';
          edges = edges';
        }

    pub pass_push_moved : Moved n mark (set mark t (top + 1)) depth (depth + 1)
    pass_push_moved =
        record {
          falls =
              omega (
                arith,
                laws.news-lt (at mark) (at (set mark t (top + 1))) n t (set_new mark t (top + 1) n z) l z (λ e. omega (arith, put_mark.now)),
              );
          kept = set_new mark t (top + 1) n z;
        }

  -- ---- at the current node

  module _ (pos : 0 < depth) where
    pub cur_lt : cur < top
    cur_lt = omega (arith, P.state.path (depth - 1) (omega arith), P.here pos)

    pub cur_node : at stack cur < n
    cur_node = node_of cur cur_lt

    pub segs_pos : 0 < segs
    segs_pos = laws.segs_some cur P.state pos (P.here pos)

    end_is : at first (at stack cur + 1) ≡ at first (suc (at stack cur))
    end_is = ap (at first) (add-one (at stack cur))

    pub none_new : (i : ℕ) → NewPlace first targets (at mark) (at stack cur) i → at first (at stack cur + 1) ≤ i
        → (t : ℕ) → (graph_of first targets n).flow (at stack cur) t ≡ true → at mark t ≡ 0 → ⊥
    none_new i N l = new_none n N (omega (arith, end_is))

    -- on to the new successor at the place i
    module _ (i : ℕ) (N : NewPlace first targets (at mark) (at stack cur) i) (l : i < at first (at stack cur + 1)) where
      more : i < at first (suc (at stack cur))
      more = omega (arith, end_is)

      pub step_small : i < max_steps
      step_small = omega (arith, first_few first targets n P.shape (suc (at stack cur)) cur_node, more)

      pub step_place : i < length targets
      step_place = place_in first targets n P.shape (at stack cur) i cur_node more

      pub step_node : at targets i < n
      step_node = node_in first targets n P.shape (at stack cur) i cur_node more

      pub step_top : top < n
      step_top = top_lt (at targets i) step_node (N.new more)

      step_from : (p : ℕ) → p < top → Reaches (graph_of first targets n) (at stack p) (at targets i)
      step_from p b =
          reach_join (graph_of first targets n) (laws.to_cur cur P.state pos (P.here pos) p b)
          (reach_one (graph_of first targets n)
          (is_flow first targets n (at stack cur) (at targets i) cur_node (record { place = i; after = N.cursor.from; before = more; is = refl })))

      put_cursor : laws.Put (at path) (at (set path (depth - 1) (i + 1))) (depth - 1) (i + 1)
      put_cursor = put path (depth - 1) (i + 1) (omega (arith, P.paths, depth_le, top_le))

      step_same : (j : ℕ) → suc j < depth → at (set path (depth - 1) (i + 1)) j ≡ at path j
      step_same j k = put_cursor.else j (λ e. omega arith)

      step_moved : (j : ℕ) → suc j ≡ depth
          → Cursor first targets (at (set mark (at targets i) (top + 1))) (at stack (P.pa j)) (at (set path (depth - 1) (i + 1)) j)
          × (0 < at (set path (depth - 1) (i + 1)) j)
          × (at targets (at (set path (depth - 1) (i + 1)) j - 1) ≡ at targets i)
      step_moved j e =
          let f : j ≡ depth - 1 = omega arith in
          let g : at (set path (depth - 1) (i + 1)) j ≡ i + 1 = ap (at (set path (depth - 1) (i + 1))) f ∙ put_cursor.now in
          let h : at targets (at (set path (depth - 1) (i + 1)) j - 1) ≡ at targets i = ap (at targets) (omega arith) in (
            cursor_as (ap (at stack) (ap P.pa f ∙ P.here pos)) g
                (new_more (cursor_kept P.shape cur_node (set_new mark (at targets i) (top + 1) n (N.new more)) N.cursor) more
                (λ z. omega (arith, get_or-set_same mark (at targets i) (top + 1) 0 (omega (arith, P.marks, step_node))))),
            omega arith,
            h,
          )

      pub pass_step : Pass first targets n (set mark (at targets i) (top + 1)) (set stack top (at targets i))
          (set (set path (depth - 1) (i + 1)) depth (at first (at targets i))) (set start segs top) (top + 1) (segs + 1) (depth + 1) top
      pass_step =
          pass_push (at targets i) step_node (N.new more) step_from (set path (depth - 1) (i + 1)) (rw length-set P.paths) step_same step_moved

      pub step_falls : Moved n mark (set mark (at targets i) (top + 1)) depth (depth + 1)
      step_falls =
          pass_push_moved (at targets i) step_node (N.new more) step_from (set path (depth - 1) (i + 1))
          (rw length-set P.paths) step_same step_moved
