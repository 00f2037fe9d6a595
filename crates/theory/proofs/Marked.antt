-- Laws of the four steps and the marked set. `marked_smallest` is the paper's sentence.
use mathlib.Core.Path.{◌≡◌, sym, ◌∙◌}
use mathlib.Core.Bool.{Bool, true, false, true≢false}
use mathlib.Core.Logic.{◌↔◌, ◌⊎◌, inl, inr, ⊎_elim}
use mathlib.Core.List.{List, [], ◌∷◌, ◌++◌}
use Prim.Native.Nat.{ℕ, ◌<◌}
use lib.ListN.{length}
use lib.Dec.{eqb}
use borrow.Author.Tests.{eqb-true}
use Rattle.theory.specs.Walk.{Walk, stop, move, Inside}
use Rattle.theory.specs.System.{System, Laws, Joins, OnClosedWalkIn}
use Rattle.theory.specs.Marked.{StepIn, by_flow, by_face, by_touch, ClosedSet, MarkedIn, begin, onward, Unsafe, step, marks, unsafe}
use Rattle.theory.proofs.Below.{bool_ext, false_unless_true, test↔, and↔, or↔, any↔}
use Rattle.theory.proofs.Walk.{walk_append, within_walk, short}
use Rattle.theory.proofs.System.{closed_walk_law, joins_inside, start_below, into_state}

-- a set with the start that is closed under the steps holds every marked state
pub marked_in_closed : {Y : System} {M : ℕ → Type 0} → ClosedSet Y M → {p : ℕ} → MarkedIn Y p → M p
marked_in_closed C begin = C.holds_start
marked_in_closed C (onward {p = p} {q = q} m t) = C.closed p q (marked_in_closed C m) t

module _ (Y : System) (L : Laws Y) where
  -- ---- steps

  step↔ : (p q : ℕ) → (step Y p q ≡ true) ↔ ((Y.flow p q ≡ true) ⊎ ((Y.face p q ≡ true) ⊎ ((Y.near p q ≡ true) × OnClosedWalkIn Y q)))
  unfolding step
  step↔ p q = or↔ (test↔ (Y.flow p q)) (or↔ (test↔ (Y.face p q)) (and↔ (test↔ (Y.near p q)) (closed_walk_law Y L q)))

  pub step_is : (p q : ℕ) → step Y p q ≡ true → StepIn Y p q
  step_is p q e = ⊎_elim by_flow (⊎_elim by_face (λ t. by_touch t.0 t.1)) ((step↔ p q).0 e)

  pub is_step : (p q : ℕ) → StepIn Y p q → step Y p q ≡ true
  is_step p q (by_flow e) = (step↔ p q).1 (inl e)
  is_step p q (by_face e) = (step↔ p q).1 (inr (inl e))
  is_step p q (by_touch e w) = (step↔ p q).1 (inr (inr (e, w)))

  pub step_law : (p q : ℕ) → (step Y p q ≡ true) ↔ StepIn Y p q
  step_law p q = (step_is p q, is_step p q)

  step_allowed : (p q : ℕ) → StepIn Y p q → (Y.allowed p ≡ true) × (Y.allowed q ≡ true)
  step_allowed p q (by_flow e) = L.flow_joins p q e
  step_allowed p q (by_face e) = L.face_joins p q e
  step_allowed p q (by_touch e w) = L.near_joins p q e

  pub step_joins : Joins Y (step Y)
  step_joins p q e = step_allowed p q (step_is p q e)

  pub step_inside : Inside Y.size (step Y)
  step_inside = joins_inside Y L (step Y) step_joins

  -- ---- the marked set

  pub marked_allowed : {s : ℕ} → MarkedIn Y s → Y.allowed s ≡ true
  marked_allowed begin = L.start_allowed
  marked_allowed (onward {p = p} {q = q} m t) = (step_allowed p q t).1

  pub marked_on : {p s : ℕ} {l : List ℕ} → MarkedIn Y p → Walk (step Y) p s l → MarkedIn Y s
  marked_on m stop = m
  marked_on m (move {p = p} {q = q} e w) = marked_on (onward m (step_is p q e)) w

  pub marked_walk : {s : ℕ} → MarkedIn Y s → (l : List ℕ) × Walk (step Y) Y.start s l
  marked_walk begin = ([], stop)
  marked_walk (onward {p = p} {q = q} m t) =
      let w = marked_walk m in
      (w.0 ++ (q ∷ []), walk_append w.1 (move (is_step p q t) stop))

  pub marks_is : (s : ℕ) → marks Y s ≡ true → MarkedIn Y s
  unfolding marks
  marks_is s e =
      let w = (within_walk Y.size (step Y) (λ x. eqb x s) step_inside Y.size Y.start e).2 in
      rw (eqb-true w.end s w.ends) at (marked_on begin w.walk)

  pub is_marks : (s : ℕ) → MarkedIn Y s → marks Y s ≡ true
  unfolding marks
  is_marks s m =
      let (l, w) = marked_walk m in
      short Y.size (step Y) (λ x. eqb x s) step_inside Y.start (length l) (into_state w) (start_below Y L)

  pub marks_law : (s : ℕ) → (marks Y s ≡ true) ↔ MarkedIn Y s
  marks_law s = (marks_is s, is_marks s)

  -- 01: "The marked set is the smallest set with the start (all clocks 0) that is closed under all four." It is such a set, it lies in every
  -- such set, and `marks` computes it.
  pub marked_smallest : ClosedSet Y (MarkedIn Y)
      × ((M : ℕ → Type 0) → ClosedSet Y M → (p : ℕ) → MarkedIn Y p → M p)
      × ((p : ℕ) → (marks Y p ≡ true) ↔ MarkedIn Y p)
  marked_smallest = (record { holds_start = begin; closed = λ p q m t. onward m t }, λ M C p m. marked_in_closed C m, marks_law)

  -- what shows that a set found in any way is the marked one
  pub marks_only : (is_in : ℕ → Bool)
      → ClosedSet Y (λ p. is_in p ≡ true)
      → ((p : ℕ) → p < Y.size → is_in p ≡ true → MarkedIn Y p)
      → (p : ℕ) → p < Y.size → is_in p ≡ marks Y p
  marks_only is_in C m p b = bool_ext (is_in p) (marks Y p) (λ i. is_marks p (m p b i)) (λ i. marked_in_closed C (marks_is p i))

  -- ---- the verdict

  unsafe↔ : (unsafe Y ≡ true) ↔ ((s : ℕ) × (s < Y.size) × (MarkedIn Y s × (Y.forbidden s ≡ true)))
  unfolding unsafe
  unsafe↔ = any↔ Y.size λ s. and↔ (marks_law s) (test↔ (Y.forbidden s))

  pub unsafe_is : unsafe Y ≡ true → Unsafe Y
  unsafe_is e = let (s, b, (m, x)) = unsafe↔.0 e in (s, m, x)

  pub is_unsafe : Unsafe Y → unsafe Y ≡ true
  is_unsafe (s, m, e) = unsafe↔.1 (s, L.allowed_below s (marked_allowed m), (m, e))

  pub unsafe_law : (unsafe Y ≡ true) ↔ Unsafe Y
  unsafe_law = (unsafe_is, is_unsafe)

  pub safe_is : unsafe Y ≡ false → (s : ℕ) → MarkedIn Y s → Y.forbidden s ≡ false
  safe_is n s m = false_unless_true (Y.forbidden s) λ e. true≢false (sym (is_unsafe (s, m, e)) ∙ n)
