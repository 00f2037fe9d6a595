-- A strongly connected component: what tells the closed walks and the height of its states, where those of the states that it leads to are known.
use mathlib.Core.Path.{◌≡◌, sym, subst}
use mathlib.Core.Bool.{true}
use mathlib.Core.Logic.{◌⊎◌, inl, inr, ⊎_elim}
use mathlib.Core.List.{List, [], ◌∷◌, ◌++◌}
use Prim.Native.Nat.{ℕ, suc, ◌≤◌, ◌<◌, zero-le, suc-le-suc}
use native.Mathlib.Nat.{le_trans}
use Rattle.theory.specs.Walk.{Walk, stop, move}
use Rattle.theory.specs.System.{System, Reaches, OnClosedWalkIn}
use Rattle.theory.specs.Height.{Falls, none, level, down, IsHeight}
use Rattle.theory.proofs.Walk.{walk_append, walk_first}

module _ (Y : System) where
  pub reach_join : {p q s : ℕ} → Reaches Y p q → Reaches Y q s → Reaches Y p s
  reach_join v w = (v.0 ++ w.0, walk_append v.1 w.1)

  pub reach_one : {p q : ℕ} → Y.flow p q ≡ true → Reaches Y p q
  reach_one {q} e = (q ∷ [], move e stop)

  -- a way there, a step, and a way back
  pub closed_by : {p q s : ℕ} {l : List ℕ} → Walk Y.flow p q l → Y.flow q s ≡ true → Reaches Y s p → OnClosedWalkIn Y p
  closed_by {s} stop e v = (s, v.0, move e v.1)
  closed_by (move {q = x} {l = m} f w) e v = (x, m ++ (_ ∷ v.0), move f (walk_append w (move e v.1)))

  -- a walk from a state that p goes to and comes back from is a walk from p, with as many steps that it can't return from
  falls_along : {p q d : ℕ} {l : List ℕ} → Walk Y.flow p q l → Reaches Y q p → Falls Y q d → Falls Y p d
  falls_along stop r f = f
  falls_along (move {l = l} e w) r f = level e (reach_join (l, w) r) (falls_along w (reach_join r (reach_one e)) f)

-- In: the component. Done: states that no step leaves. A step from In leads to In or Done, and all of In reach one another.
pub record Component (Y : System) (In Done : ℕ → Type 0) : Type 1 where
  pub apart : (p : ℕ) → In p → Done p → ⊥
  pub kept : (p q : ℕ) → Done p → Y.flow p q ≡ true → Done q
  pub leaves : (p q : ℕ) → In p → Y.flow p q ≡ true → In q ⊎ Done q
  pub all : (p q : ℕ) → In p → In q → Reaches Y p q

module _ {Y : System} {In Done : ℕ → Type 0} (C : Component Y In Done) where
  done_on : {p q : ℕ} {l : List ℕ} → Done p → Walk Y.flow p q l → Done q
  done_on d stop = d
  done_on d (move e w) = done_on (C.kept _ _ d e) w

  no_back : {p q : ℕ} → In p → Done q → ¬ Reaches Y q p
  no_back {p} i d r = C.apart p i (done_on d r.1)

  -- ---- a state of In lies on a closed walk just if it has a step to In, and then all of In do

  pub closed_in : (p q : ℕ) → In p → In q → Y.flow p q ≡ true → OnClosedWalkIn Y p
  closed_in p q i j e = let w = C.all q p j i in (q, w.0, move e w.1)

  pub in_closed : (p : ℕ) → In p → ((q : ℕ) → Y.flow p q ≡ true → In q → ⊥) → ¬ OnClosedWalkIn Y p
  in_closed p i f (q, l, w) =
      let (e, v) = walk_first w in
      ⊎_elim (f q e) (λ d. no_back i d (l, v)) (C.leaves p q i e)

  pub closed_all : (p q : ℕ) → In p → In q → OnClosedWalkIn Y p → OnClosedWalkIn Y q
  closed_all p q i j (x, l, w) =
      let (e, v) = walk_first w in
      closed_by Y (C.all q p j i).1 e (reach_join Y (l, v) (C.all p q i j))

  -- ---- the height is above that of each state of Done one step on, and is just above one of them, or 0

  module _ (hs : ℕ → ℕ) (right : (q : ℕ) → Done q → IsHeight Y q (hs q)) (h : ℕ)
      (above : (p q : ℕ) → In p → Y.flow p q ≡ true → Done q → hs q < h) where
    falls_most : {p d : ℕ} → In p → Falls Y p d → d ≤ h
    falls_most i none = zero-le
    falls_most {p} i (level {q} e r f) = ⊎_elim (λ j. falls_most j f) (λ d. absurd (no_back i d r)) (C.leaves p q i e)
    falls_most {p} i (down {q} {d = c} e n f) =
        ⊎_elim (λ j. absurd (n (C.all q p j i))) (λ d. le_trans (suc-le-suc ((right q d).most c f)) (above p q i e d)) (C.leaves p q i e)

    pub component_height : (h ≡ 0) ⊎ ((p : ℕ) × (q : ℕ) × In p × (Y.flow p q ≡ true) × Done q × (h ≡ suc (hs q)))
        → (p : ℕ) → In p → IsHeight Y p h
    component_height (inl z) p i = record { some = subst (Falls Y p) (sym z) none; most = λ d f. falls_most i f }
    component_height (inr (x, q, j, e, d, z)) p i =
        record {
          some = subst (Falls Y p) (sym z) (falls_along Y (C.all p x i j).1 (C.all x p j i) (down e (no_back j d) (right q d).some));
          most = λ d f. falls_most i f;
        }
