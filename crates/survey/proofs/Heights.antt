-- What the search for closed walks asks for and leaves, and what stands in its place where no touch steps are searched.
use Prim.Native.Nat.{ℕ, ◌<◌}
use native.Mathlib.Omega.{arith}
use mathlib.Core.Path.{◌≡◌, refl, sym, ap, ◌∙◌}
use mathlib.Core.Bool.{Bool, true, false, true≢false}
use mathlib.Core.List.{List}
use lib.ListN.{length, get_or, replicate, length-replicate}
use lib.Dec.{ltb}
use Rattle.limits.proofs.Zeros.{zero_at}
use Rattle.theory.specs.Below.{bit}
use Rattle.theory.specs.StateGraph.{system_of}
use Rattle.model.specs.declared.Model.{Model}
use Rattle.model.specs.Model.{Lawful}
use Rattle.graph.specs.Plan.{system_of_model}
use Rattle.graph.specs.States.{states}
use Rattle.graph.proofs.Models.{system_laws}
use Rattle.successors.specs.Flow.{FlowLists}
use Rattle.successors.proofs.Room.{states_limit, steps_limit}
use Rattle.component.specs.Marks.{GraphLists, Marks}
use Rattle.survey.specs.Surveyed.{Heights, HeightsFor, HeightsAdded}

module _ (m : Model) (ok : Lawful m) {first targets : List ℕ} (F : FlowLists m first targets) where
  pub component_shape : GraphLists first targets (states m)
  component_shape =
      let h = F.holds in
      record {
        small = states_limit ok;
        few = omega (arith, F.few, steps_limit ok);
        long = h.long;
        ascends = h.ascends;
        ends = h.ends;
        below = h.below;
      }

  heights_of : {heights : List ℕ} → length heights ≡ states m → Marks first targets (states m) heights → Heights m heights
  unfolding system_of
  heights_of e M = record { long = e; are = M.are (system_of_model m) (system_laws m ok) refl F.holds }

  -- what the search leaves
  pub heights_found : {touch : Bool} {heights : List ℕ} → touch ≡ true → length heights ≡ states m → Marks first targets (states m) heights
      → HeightsFor touch m heights
  heights_found i e M = record { long = e; are = λ _. heights_of e M; none = λ j. absurd (true≢false (sym i ∙ j)) }

-- what is left where it is not made
pub heights_none : {touch : Bool} {m : Model} {heights : List ℕ} (n : ℕ) → touch ≡ false → n ≡ states m → heights ≡ replicate n 0
    → HeightsFor touch m heights
heights_none n i e z =
    record {
      long = ap length z ∙ length-replicate n 0 ∙ e;
      are = λ j. absurd (true≢false (sym j ∙ i));
      none = λ _ p. zero_at n z p;
    }

-- ---- marks that wait in flags

bit_mark : (b : Bool) → ltb 0 (bit b) ≡ b
bit_mark true = refl
bit_mark false = refl

pub heights_added : {m : Model} {hs : List ℕ} (ds flags ds' : List ℕ) → length ds ≡ states m → length flags ≡ states m → length ds' ≡ states m
    → ((p : ℕ) → p < length ds → get_or flags p 0 ≡ bit (ltb 0 (get_or ds p 0)))
    → ((p : ℕ) → p < length flags → get_or ds' p 0 ≡ get_or flags p 0) → HeightsFor true m hs → HeightsAdded m ds hs ds'
heights_added ds flags ds' e f g kept restored H =
    record {
      heights = H.are refl;
      long = g;
      marks = λ p b.
          ap (λ (x : ℕ). ltb 0 x) (restored p (omega arith) ∙ kept p (omega arith)) ∙ bit_mark (ltb 0 (get_or ds p 0));
    }
