-- The walk along the flags, with the step back, is the least closed walk; at a system it is ours.
use mathlib.Core.Path.{◌≡◌, refl, sym, ap, ◌∙◌}
use mathlib.Core.Bool.{Bool, true, false, true≢false}
use mathlib.Core.List.{List, [], ◌∷◌, ◌++◌}
use Prim.Native.Nat.{ℕ, ◌+◌, ◌-◌, ◌≤◌, ◌<◌}
use native.Mathlib.Omega.{arith}
use native.Mathlib.Numerals.{add-one}
use native.Mathlib.Decide.{dec_lt}
use lib.ListN.{length, set, take, length-append}
use Rattle.std.proofs.lemmas.List.{take-append-le, take_all}
use lib.Seq.{take-suc-set}
use lib.Dec.{eqb}
use borrow.Author.Tests.{eqb-true}
use Rattle.theory.specs.Walk.{Walk, Inside, dist⁺, greedy}
use Rattle.theory.specs.System.{System, Laws, OnClosedWalkIn, on_closed_walk}
use Rattle.theory.specs.ClosedWalk.{closed_walk_steps, closed_walk}
use Rattle.theory.specs.Adjacency.{Adjacent, Holds}
use Rattle.theory.proofs.Walk.{exact_walk, dist-exact, dist⁺-exact}
use Rattle.theory.proofs.System.{flow_inside, closed_walk_is, is_closed_walk}
use Rattle.theory.proofs.ClosedWalk.{closed_walk_some, closed_walk_below}
use Rattle.theory.proofs.Return.{dist_return, greedy_return}
use Rattle.search.specs.Rounds.{Agrees}
use Rattle.search.specs.Flags.{Aims, FlagsOf, Steered}
use Rattle.search.proofs.Follow.{steered_of}
use Rattle.closed_walk.specs.Closes.{Closes}
use Rattle.closed_walk.specs.Rounds.{back}

-- at the last node, and the step back
pub trace_end : {first targets level : List ℕ} {q K : ℕ} (path : List ℕ) (steps : ℕ) → steps ≡ K + 1 → steps ≤ length level → K < length path
    → (r : ℕ → ℕ → Bool) → take K path ≡ greedy (length level) r (λ p. r p q) K q
    → Steered (Adjacent first targets) q K level r (λ p. r p q)
    → take steps (set path K q) ≡ greedy (length level) r (λ x. eqb x q) steps q
trace_end {level = level} {q = q} {K = K} path steps d few long r F T =
    let S = length level in
    let x = dist-exact S r (λ x. r x q) T.agrees.inside q (omega (arith, T.few)) in
    rw (d, add-one K)
    (take-suc-set path K q (omega arith)
    ∙ (ap (λ (m : List ℕ). m ++ (q ∷ [])) F
    ∙ sym (greedy_return S r T.agrees.inside q K q (rw (← T.few) at x))))

-- with the steps before it in the first places
pub walk_end : {first targets level : List ℕ} {q : ℕ} (front back : List ℕ) (n K steps : ℕ) → n ≡ K → length front ≡ n → steps ≡ K + 1
    → steps ≤ length level → 0 < length back → (r : ℕ → ℕ → Bool)
    → (Steered (Adjacent first targets) q n level r (λ p. r p q) → front ≡ greedy (length level) r (λ p. r p q) n q)
    → Steered (Adjacent first targets) q K level r (λ p. r p q)
    → take steps (set (front ++ back) K q) ≡ greedy (length level) r (λ x. eqb x q) steps q
walk_end front back n K steps e l d few some r W T =
    trace_end (front ++ back) steps d few (simp length-append (omega arith)) r
    (take-append-le K front back (omega arith) ∙ (take_all K front (omega arith) ∙ (rw e at W) T)) T

-- ---- what is found

module _ (S : ℕ) (r : ℕ → ℕ → Bool) (inside : Inside S r) (q : ℕ) where
  pub closes_found : {steps : ℕ} {path : List ℕ} → back S r q < S → steps ≡ back S r q + 1
      → take steps path ≡ greedy S r (λ x. eqb x q) steps q → Closes S r q steps path
  closes_found short e h = record {
    fewest = λ _. e ∙ sym (dist_return S r inside q q);
    least = λ _. h;
    none = λ l. absurd (omega (arith, dist_return S r inside q q));
  }

  pub closes_none : {path : List ℕ} → S ≤ back S r q → Closes S r q 0 path
  closes_none l = record {
    fewest = λ h. absurd (omega (arith, dist_return S r inside q q));
    least = λ h. absurd (omega (arith, dist_return S r inside q q));
    none = λ _. refl;
  }

-- the search, the flags and the walk along them
pub walk_closes : {first targets level level' : List ℕ} {S q steps y : ℕ} {r : ℕ → ℕ → Bool} → Agrees (length level) r q (Adjacent first targets)
    → length level ≡ S
    → ((r : ℕ → ℕ → Bool) → Agrees (length level) r q (Adjacent first targets)
    → Aims (Adjacent first targets) (λ z. Adjacent first targets z q) q y level r (λ p. r p q))
    → steps ≡ y → 0 < steps → FlagsOf (Adjacent first targets) (λ z. Adjacent first targets z q) q steps level level' → (path : List ℕ)
    → (Steered (Adjacent first targets) q (steps - 1) level' r (λ p. r p q)
    → take steps path ≡ greedy (length level') r (λ x. eqb x q) steps q) → Closes S r q steps path
walk_closes {level = level} {q = q} {steps = steps} {r = r} G k aims e z F path W =
    let A = rw (← e) at (aims r G) in
    let w = W (steered_of F (omega arith) r (λ p. r p q) A) in
    rw (← k) (closes_found (length level) r G.inside q A.short A.last (rw F.raised.long at w))

-- ---- at a system: our closed walk

module _ (Y : System) (L : Laws Y) (q : ℕ) where
  closed_few : on_closed_walk Y q ≡ true → dist⁺ Y.size Y.flow (λ x. eqb x q) q ≤ Y.size
  unfolding closed_walk_steps
  closed_few o = closed_walk_below Y L q (closed_walk_is Y L q o)

  few_closed : dist⁺ Y.size Y.flow (λ x. eqb x q) q ≤ Y.size → on_closed_walk Y q ≡ true
  unfolding closed_walk_steps
  few_closed l =
      let k = dist⁺ Y.size Y.flow (λ x. eqb x q) q in
      let e = dist⁺-exact Y.size Y.flow (λ x. eqb x q) (flow_inside Y L) q l in
      let w = exact_walk Y.size Y.flow (λ x. eqb x q) (flow_inside Y L) k q e in
      is_closed_walk Y L q (some w.path (rw (eqb-true w.end q w.ends) at w.walk) w.size)
    where
      some : (l : List ℕ) → Walk Y.flow q q l → length l ≡ dist⁺ Y.size Y.flow (λ x. eqb x q) q → OnClosedWalkIn Y q
      some [] w n = absurd (omega (arith, closed_walk_some Y L q))
      some (x ∷ l) w n = (x, l, w)

  module _ {first targets : List ℕ} {n steps : ℕ} {path : List ℕ}
      (C : (r : ℕ → ℕ → Bool) → Holds first targets n r → Closes n r q steps path) (e : n ≡ Y.size) (H : Holds first targets Y.size Y.flow) where
    closes : Closes Y.size Y.flow q steps path
    closes = rw e at (C Y.flow (rw e H))

    pub closed_walk_steps_lem : on_closed_walk Y q ≡ true → steps ≡ closed_walk_steps Y q
    unfolding closed_walk_steps
    closed_walk_steps_lem o = closes.fewest (closed_few o)

    pub closed_walk_nodes : on_closed_walk Y q ≡ true → take steps path ≡ closed_walk Y q
    unfolding closed_walk_steps closed_walk
    closed_walk_nodes o = rw (← (closes.fewest (closed_few o))) (closes.least (closed_few o))

    pub closed_walk_none : on_closed_walk Y q ≡ false → steps ≡ 0
    closed_walk_none o = by (dec_lt Y.size (dist⁺ Y.size Y.flow (λ x. eqb x q) q))
      where
        by : Dec (Y.size < dist⁺ Y.size Y.flow (λ x. eqb x q) q) → steps ≡ 0
        by (yes l) = closes.none l
        by (no l) = absurd (true≢false (sym (few_closed (omega arith)) ∙ o))
