-- Which edges of a model can open alone: by its drawing and by its automaton, and that just these are ever taken.
use Prim.Native.Nat.{ℕ, zero, suc, ◌/◌, ◌%◌, ◌^◌, ◌≤◌, ◌<◌}
use native.Mathlib.Nat.{mod-lt}
use native.Mathlib.Omega.{arith}
use mathlib.Core.Path.{◌≡◌, refl, sym, subst, ◌∙◌}
use mathlib.Core.Bool.{Bool, true, false, not, cond, true≢false}
use mathlib.Core.Logic.{◌↔◌}
use mathlib.Core.List.{Memᴰ}
use lib.Dec.{eqb}
use lib.ListN.{get_or}
use Rattle.theory.specs.Below.{tab}
use Rattle.theory.specs.Lists.{from}
use Rattle.theory.specs.Pointwise.{Each}
use Rattle.theory.proofs.Lists.{map_law}
use Rattle.theory.proofs.Sorted.{from_law}
use Rattle.model.specs.declared.Model.{Model}
use Rattle.model.specs.Model.{Lawful, slot, source_of, target_of, low_at, high_at, limit_at, keeps}
use Rattle.graph.specs.Plan.{edge_of, automaton_of}
use Rattle.graph.proofs.Masks.{bit_at, reset_mask}
use Rattle.graph.proofs.Plan.{capped}
use Rattle.robust.specs.Robust.{OpensAlone, JumpsAlong, resets_clock}
use Rattle.robust.proofs.Opening.{opens_exactly}
use Rattle.edge_walks.specs.Opening as drawing

-- ---- the reset mask

one_or_none : (b : ℕ) → b < 2 → eqb b 1 ≡ not (eqb b 0)
one_or_none zero h = refl
one_or_none (suc zero) h = refl
one_or_none (suc (suc b)) h = absurd (omega arith)

kept_bit : (m : Model) (e x : ℕ) → eqb (get_or m.reset e 0 / 2 ^ x % 2) 1 ≡ not (keeps m x e)
kept_bit m e x = one_or_none _ (mod-lt (get_or m.reset e 0 / 2 ^ x) (omega arith))

-- an edge resets a clock or keeps it
pub resets_law : (m : Model) (e x : ℕ) → x < m.clocks → resets_clock x (edge_of m e) ≡ not (keeps m x e)
resets_law m e x h = bit_at m.clocks (get_or m.reset e 0) x h ∙ kept_bit m e x

-- ---- entries for each clock, as lists

each_tab : (n : ℕ) (f g : ℕ → ℕ) → ((x : ℕ) → x < n → f x ≤ g x) → Each (λ a b. a ≤ b) (tab n f) (tab n g)
unfolding tab
each_tab zero f g h = Each.none
each_tab (suc n) f g h = Each.more (h 0 (omega arith)) (each_tab n (λ x. f (suc x)) (λ x. g (suc x)) (λ x l. h (suc x) (omega arith)))

tab_each : (n : ℕ) (f g : ℕ → ℕ) → Each (λ a b. a ≤ b) (tab n f) (tab n g) → (x : ℕ) → x < n → f x ≤ g x
unfolding tab
tab_each zero f g t x l = absurd (omega arith)
tab_each (suc n) f g (Each.more h hs) zero l = h
tab_each (suc n) f g (Each.more h hs) (suc x) l = tab_each n (λ x. f (suc x)) (λ x. g (suc x)) hs x (omega arith)

-- ---- by the drawing and by the automaton

-- what is held where it enters, of a clock that is kept
entered : (kept : Bool) (low limit : ℕ) → (kept ≡ true → low ≤ limit) ↔ (cond (not kept) 0 low ≤ limit)
entered true low limit = (λ h. h refl, λ h _. h)
entered false low limit = (λ _. omega arith, λ _ e. absurd (true≢false (sym e)))

module _ (m : Model) (e : ℕ) where
  abbrev resets : ℕ → Bool
  resets x = eqb (get_or m.reset e 0 / 2 ^ x % 2) 1

  enters_law : (x : ℕ) → (keeps m x e ≡ true → low_at m e x ≤ limit_at m (target_of m e) x) ↔ (cond (resets x) 0 (low_at m e x) ≤ limit_at m (target_of m e) x)
  enters_law x =
      subst (λ (b : Bool). (keeps m x e ≡ true → low_at m e x ≤ limit_at m (target_of m e) x) ↔ (cond b 0 (low_at m e x) ≤ limit_at m (target_of m e) x))
      (sym (kept_bit m e x)) (entered (keeps m x e) (low_at m e x) (limit_at m (target_of m e) x))

  pub model_opens : drawing.OpensAlone m e ↔ OpensAlone (automaton_of m) (edge_of m e)
  unfolding automaton_of
  model_opens = (
    λ o. record {
      leaves = each_tab m.clocks (low_at m e) (limit_at m (source_of m e)) o.leaves;
      enters = rw reset_mask (each_tab m.clocks _ (limit_at m (target_of m e)) (λ x h. (enters_law x).0 (o.enters x h)));
    },
    λ o. record {
      leaves = tab_each m.clocks (low_at m e) (limit_at m (source_of m e)) o.leaves;
      enters = λ x h. (enters_law x).1 (tab_each m.clocks _ (limit_at m (target_of m e)) (rw reset_mask at o.enters) x h);
    },
  )

-- ---- just these are ever taken

-- an edge of the model is one of its automaton
pub drawn_edge : (m : Model) (e : ℕ) → e < m.edges → Memᴰ (edge_of m e) (automaton_of m).edges
unfolding automaton_of
drawn_edge m e h = (map_law (edge_of m) (from 0 m.edges) (edge_of m e)).1 (e, (from_law 0 m.edges e).1 (omega arith), refl)

module _ (m : Model) (ok : Lawful m) (e : ℕ) (h : e < m.edges) where
  -- an edge of a model counts exactly where some allowed state, reachable or not, has a jump along it
  pub opens_jumps : drawing.OpensAlone m e ↔ JumpsAlong (automaton_of m) (edge_of m e)
  unfolding automaton_of
  opens_jumps =
      let exactly =
      opens_exactly (capped m ok) (drawn_edge m e h)
      (each_tab m.clocks (low_at m e) (high_at m e) (λ x _. ok.ranges.lower (slot e x))) in
      (λ o. exactly.0 ((model_opens m e).0 o), λ j. (model_opens m e).1 (exactly.1 j))
