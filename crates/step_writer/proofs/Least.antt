-- Where a label leads, and the least label between two states, as the code finds them.
use Rattle.std.specs.Prelude.{Option, Some, None, nat_eq}
use Rattle.std.specs.Option.{option_eq}
use mathlib.Core.Path.{◌≡◌, refl, sym, ap, ◌∙◌}
use mathlib.Core.Bool.{Bool, true, false, cond, ◌&&◌}
use Prim.Native.Nat.{ℕ, ◌+◌, ◌≤◌, ◌<◌}
use native.Mathlib.Omega.{arith}
use lib.Dec.{eqb, ltb}
use borrow.Author.Tests.{lt-ltb}
use Rattle.graph.proofs.Plan.{labels_are}
use Rattle.theory.specs.Labels.{opens, leads, least_label}
use Rattle.theory.specs.StateGraph.{system_of, labelled_of}
use Rattle.theory.proofs.Below.{least-le, least_is, least_none}
use Rattle.limits.specs.Limits.{max_edges}
use Rattle.model.specs.declared.Model.{Model}
use Rattle.model.specs.Model.{Lawful}
use Rattle.graph.specs.Plan.{labelled_of_model}
use Rattle.graph.specs.States.{states, next_of}

module _ (m : Model) where
  -- ---- where a label leads

  -- the test of the state that it leads to
  abbrev is_at : ℕ → Option ℕ → Bool
  is_at q n = option_eq nat_eq n (Some q)

  is_at_lem : (q s : ℕ) (b : Bool) → is_at q (cond b (Some s) None) ≡ (b && eqb s q)
  is_at_lem q s true = refl
  is_at_lem q s false = refl

  pub leads_is : (x p q : ℕ) → x ≤ m.edges → (n : Option ℕ) → n ≡ next_of m ((labelled_of_model m).next x p)
      → is_at q n ≡ leads (labelled_of_model m) x p q
  unfolding leads opens system_of labelled_of
  leads_is x p q l n e =
      ap (is_at q) e
      ∙ is_at_lem q ((labelled_of_model m).next x p) (ltb ((labelled_of_model m).next x p) (states m))
      ∙ rw (lt-ltb x (labelled_of_model m).labels (omega (arith, labels_are m))) refl

  -- ---- the least that leads there

  module _ (p q : ℕ) where
    abbrev pub NoneBefore : ℕ → Type 0
    NoneBefore x = (j : ℕ) → j < x → leads (labelled_of_model m) j p q ≡ false

    pub least_found : (x : ℕ) → x ≤ m.edges → leads (labelled_of_model m) x p q ≡ true → NoneBefore x → x ≡ least_label (labelled_of_model m) p q
    unfolding least_label
    least_found x l t h =
        sym (least_is (labelled_of_model m).labels (λ x. leads (labelled_of_model m) x p q) x (omega (arith, labels_are m)) t h)

    pub least_missing : (x : ℕ) → x ≡ m.edges + 1 → NoneBefore x → x ≡ least_label (labelled_of_model m) p q
    unfolding least_label
    least_missing x e h =
        let k : (labelled_of_model m).labels ≡ x = omega (arith, labels_are m) in
        sym (least_none (labelled_of_model m).labels (λ x. leads (labelled_of_model m) x p q) (λ j l. h j (omega arith)) ∙ k)

    pub least_few : Lawful m → least_label (labelled_of_model m) p q ≤ max_edges + 1
    unfolding least_label
    least_few ok = omega (arith, least-le (labelled_of_model m).labels (λ x. leads (labelled_of_model m) x p q), labels_are m, ok.edges)
