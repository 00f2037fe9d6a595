-- The first state of the pass, the root of a search, the last state and the marks that it gives.
use mathlib.Core.Path.{◌≡◌, refl}
use mathlib.Core.Logic.{◌⊎◌, inl, inr, ⊎_elim}
use mathlib.Core.List.{List}
use Prim.Native.Nat.{ℕ, ◌+◌, ◌-◌, ◌≤◌, ◌<◌}
use native.Mathlib.Omega.{arith}
use lib.ListN.{length, set}
use Rattle.std.proofs.lemmas.Bool.{cases_lt}
use Rattle.theory.specs.System.{on_closed_walk}
use Rattle.theory.specs.Height.{height}
use Rattle.theory.proofs.Below.{bit-le, bool_ext}
use Rattle.theory.proofs.System.{closed_walk_law}
use Rattle.theory.proofs.Height.{height_unique, height_law}
use Rattle.theory.proofs.SameFlow.{closed_as, height_as}
use Rattle.component.specs.Marks.{GraphLists, Marks}
use Rattle.component.specs.Graph.{graph_of}
use Rattle.component.specs.Stack.{at}
use Rattle.component.specs.Scan.{height_in}
use Rattle.component.specs.Pass.{Pass, Moved}
use Rattle.component.proofs.GraphLaws.{flow_to, flow_from}
use Rattle.component.proofs.PassLaws.{empty, pass_push}
use Rattle.component.proofs.Stack as laws

-- with all nodes new
pub pass_first : {first targets mark stack path start : List ℕ} {n : ℕ} → GraphLists first targets n
    → length mark ≡ n → length stack ≡ n → length path ≡ n → length start ≡ n
    → ((s : ℕ) → s < n → at mark s ≡ 0) → Pass first targets n mark stack path start 0 0 0 0
pass_first {mark} {n} g l k j h z =
    record {
      shape = g;
      marks = l;
      stacks = k;
      paths = j;
      begins = h;
      pa = λ i. 0;
      state =
          record {
            room = omega (arith, laws.news_all (at mark) n);
            node = λ p a. absurd (omega arith);
            mark = λ p a. absurd (omega arith);
            held = λ s p a b e. absurd (omega (arith, z s a));
            path = λ i a. absurd (omega arith);
            rises = λ i j a b. absurd (omega arith);
            starts = λ i a. absurd (omega arith);
            climbs = λ i j a b. absurd (omega arith);
            base = λ a. absurd (omega arith);
            none = λ a. refl;
            joined = λ p q a. absurd (omega arith);
            explored = λ p a. absurd (omega arith);
            done = λ s a b. absurd (omega (arith, z s a));
          };
      here = λ a. refl;
      cursors = λ i a. absurd (omega arith);
      edges = λ i a. absurd (omega arith);
    }

-- with the path empty, where the current node does not count
pub pass_idle : {first targets mark stack path start : List ℕ} {n top segs depth cur : ℕ}
    → Pass first targets n mark stack path start top segs depth cur → depth ≡ 0 → Pass first targets n mark stack path start 0 0 0 0
pass_idle P z =
    let (e, f) = empty P z in
    record {
      shape = P.shape;
      marks = P.marks;
      stacks = P.stacks;
      paths = P.paths;
      begins = P.begins;
      pa = P.pa;
      state = rw (e, f, z) at P.state;
      here = λ a. absurd (omega arith);
      cursors = λ i a. absurd (omega arith);
      edges = λ i a. absurd (omega arith);
    }

-- ---- a root pushed, and then steps in which no node becomes new

module _ {first targets mark stack path start : List ℕ} {n : ℕ} (P : Pass first targets n mark stack path start 0 0 0 0)
    (root : ℕ) (l : root < n) (z : at mark root ≡ 0) where
  pub root_pushed : Pass first targets n (set mark root 1) (set stack 0 root) (set path 0 (at first root)) (set start 0 0) 1 1 1 0
  root_pushed = pass_push P root l z (λ p k. absurd (omega arith)) path P.paths (λ i k. refl) (λ i e. absurd (omega arith))

-- ---- the last state: the stack is empty and no node is new, so all are finished

module _ {first targets mark stack path start : List ℕ} {n : ℕ} (P : Pass first targets n mark stack path start 0 0 0 0)
    (z : (s : ℕ) → s < n → at mark s ≡ 0 → ⊥) where
  pub all_done : (s : ℕ) → s < n → n < at mark s
  all_done s l = go (cases_lt n (at mark s))
    where
      go : (n < at mark s) ⊎ (at mark s ≤ n) → n < at mark s
      go (inl d) = d
      go (inr d) =
          let k : 0 < at mark s = ⊎_elim (λ x. x) (λ x. absurd (z s l (omega arith))) (cases_lt 0 (at mark s)) in
          absurd (omega (arith, (P.state.held s (at mark s - 1) l (omega arith) (omega arith)).0))

  -- in every system that the lists hold the marks are right
  pub marks_right : (mark' : List ℕ) → ((s : ℕ) → s < n → at mark' s ≡ at mark s - (n + 1)) → Marks first targets n mark'
  marks_right mark' f =
      record {
        are = λ Y L e H p l.
            let G = graph_of first targets n in
            let d = P.state.done p l (all_done p l) in
            let to = flow_to first targets n Y L e H in
            let from = flow_from first targets n Y L e H in
            let h : d.h ≡ height Y p = height_unique (height_as G Y to from d.height) (height_law Y L p (omega arith)) in
            let c : d.c ≡ on_closed_walk Y p =
            bool_ext d.c (on_closed_walk Y p)
            (λ b. (closed_walk_law Y L p).1 (closed_as G Y to p (d.closed.0 b)))
            (λ b. d.closed.1 (closed_as Y G from p ((closed_walk_law Y L p).0 b))) in
            rw (← h, ← c) (omega (arith, f p l, d.is));
      }

-- ---- the same under other names of the numbers and lists

pub pass_as : {first targets mark stack path start mark' stack' path' start' : List ℕ} {n top segs depth cur top' segs' depth' cur' : ℕ}
    → mark' ≡ mark → stack' ≡ stack → path' ≡ path → start' ≡ start → top' ≡ top → segs' ≡ segs → depth' ≡ depth → cur' ≡ cur
    → Pass first targets n mark stack path start top segs depth cur → Pass first targets n mark' stack' path' start' top' segs' depth' cur'
pass_as a b c d e f g h P = rw (a, b, c, d, e, f, g, h) P

pub moved_as : {n : ℕ} {mark mark₁ mark₂ : List ℕ} {depth d d' : ℕ} → mark₂ ≡ mark₁ → d' ≡ d
    → Moved n mark mark₁ depth d → Moved n mark mark₂ depth d'
moved_as a e M = rw (a, e) M

-- the height in a finished node's mark is below n
pub heights_low : {first targets mark stack path start : List ℕ} {n top segs depth cur : ℕ}
    → Pass first targets n mark stack path start top segs depth cur → (t : ℕ) → t < n → n < at mark t → height_in n (at mark t) < n
heights_low P t l d = let f = P.state.done t l d in omega (arith, f.is, bit-le f.c, f.low)
