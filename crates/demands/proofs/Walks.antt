-- Walks on the drawing over two choices of edges: each walk of the first has an edge that is not of the second, or is a walk of both.
use mathlib.Core.Path.{◌≡◌, refl}
use mathlib.Core.Logic.{◌↔◌, ◌⊎◌, inl, inr}
use Prim.Native.Nat.{ℕ, suc}
use Rattle.model.specs.declared.Model.{Model}
use Rattle.model.specs.Model.{target_of}
use Rattle.edge_walks.specs.Cycle.{DrawingWalk, here, step}
use Rattle.demands.specs.Opening.{Has}

module _ (m : Model) (First Second Both : ℕ → Type 0) (both : (e : ℕ) → Both e ↔ (First e × Second e)) where
  pub wider : {k v u : ℕ} → DrawingWalk m Both k v u → DrawingWalk m First k v u
  wider here = here
  wider (step e h s c w) = step e h s ((both e).0 c).0 (wider w)

  all_second : {k v u : ℕ} (w : DrawingWalk m Both k v u) (e : ℕ) → Has (wider w) e → Second e
  unfolding wider
  all_second here e h = absurd h
  all_second (step i h s c w) e (inl q) = rw q ((both i).0 c).1
  all_second (step i h s c w) e (inr q) = all_second w e q

  module _ (known : (e : ℕ) → Second e ⊎ (Second e → ⊥)) where
    sift : {k v u : ℕ} (w : DrawingWalk m First k v u) → ((e : ℕ) × Has w e × (Second e → ⊥)) ⊎ DrawingWalk m Both k v u
    sift here = inr here
    sift (step {k = n} {v = v} {u = u} e h s c w) = by (known e) (sift w)
      where
        by : Second e ⊎ (Second e → ⊥) → ((i : ℕ) × Has w i × (Second i → ⊥)) ⊎ DrawingWalk m Both n (target_of m e) u
            → ((i : ℕ) × ((i ≡ e) ⊎ Has w i) × (Second i → ⊥)) ⊎ DrawingWalk m Both (suc n) v u
        by (inr f) rest = inl (e, inl refl, f)
        by (inl t) (inl (i, q, f)) = inl (i, inr q, f)
        by (inl t) (inr d) = inr (step e h s ((both e).1 (c, t)) d)

    -- there is no closed walk of both exactly where each of the first has an edge that is not of the second
    pub none_of_both : ((k v : ℕ) → DrawingWalk m Both (suc k) v v → ⊥)
        ↔ ((k v : ℕ) (w : DrawingWalk m First (suc k) v v) → (e : ℕ) × Has w e × (Second e → ⊥))
    none_of_both = (
      λ none k v w. by k v w (none k v) (sift w),
      λ each k v w. let (e, q, f) = each k v (wider w) in f (all_second w e q),
    )
      where
        by : (k v : ℕ) (w : DrawingWalk m First (suc k) v v) → (DrawingWalk m Both (suc k) v v → ⊥)
            → ((e : ℕ) × Has w e × (Second e → ⊥)) ⊎ DrawingWalk m Both (suc k) v v → (e : ℕ) × Has w e × (Second e → ⊥)
        by k v w none (inl found) = found
        by k v w none (inr d) = absurd (none d)
