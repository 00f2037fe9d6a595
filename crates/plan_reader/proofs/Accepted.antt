-- Which bytes are accepted, and what an accepted model keeps.
use Prim.Native.Nat.{ℕ, ◌≤◌}
use native.Mathlib.Omega.{arith}
use mathlib.Core.Path.{◌≡◌, refl, sym, ◌∙◌}
use mathlib.Core.Logic.{◌↔◌}
use mathlib.Core.List.{List}
use mathlib.Core.Bool.{true, false}
use lib.Dec.{eqb}
use borrow.Author.Tests.{eqb-true, eqb-false}
use Rattle.number.proofs.Laws.{cond_ind}
use Rattle.parser.specs.Parse.{Reading}
use Rattle.model.specs.Model.{Lawful}
use Rattle.parser.specs.Parse.{blank, refused, parse_model}
use Rattle.edge_walks.specs.Cycle.{LeavesUnreset, unreset}
use Rattle.plan_reader.specs.Accept.{judged, read_model}
use Rattle.model.proofs.Each.{false≢true}
use Rattle.edge_walks.proofs.ClosedWalks.{unreset_law}
use Rattle.parser.proofs.Lawful.{parsed}

-- refused for its bytes, refused for a walk, or accepted
judged_ind : (P : Reading → Type 0) (r : Reading)
    → ((r.refusal ≡ 0 → ⊥) → P r)
    → (r.refusal ≡ 0 → unreset r.model ≡ true → P (refused 7))
    → (r.refusal ≡ 0 → unreset r.model ≡ false → P r)
    → P (judged r)
judged_ind P r bytes walk none =
    cond_ind P (eqb r.refusal 0)
    (λ q. let z = eqb-true _ _ q in cond_ind P (unreset r.model) (walk z) (none z))
    (λ q. bytes (eqb-false _ _ q))

module _ (bs : List ℕ) where
  pub refusal_bound : (read_model bs).refusal ≤ 7
  unfolding read_model
  refusal_bound =
      let h = (parsed bs).refusal in
      judged_ind (λ (r : Reading). r.refusal ≤ 7) (parse_model bs) (λ _. omega arith) (λ _ _. omega arith) (λ _ _. omega arith)

  pub refused_blank : ((read_model bs).refusal ≡ 0 → ⊥) → (read_model bs).model ≡ blank 0 0 0 0 0
  unfolding read_model
  refused_blank =
      judged_ind (λ (r : Reading). (r.refusal ≡ 0 → ⊥) → r.model ≡ blank 0 0 0 0 0) (parse_model bs)
      (λ _ ne. (parsed bs).blanked ne) (λ _ _ _. refl) (λ z _ ne. absurd (ne z))

  -- an accepted model is the one that the bytes spell
  pub accepted_parse : (read_model bs).refusal ≡ 0 → read_model bs ≡ parse_model bs
  unfolding read_model
  accepted_parse =
      judged_ind (λ (r : Reading). r.refusal ≡ 0 → r ≡ parse_model bs) (parse_model bs)
      (λ _ _. refl) (λ _ _ e. absurd (omega arith)) (λ _ _ _. refl)

  pub accepted_law : ((read_model bs).refusal ≡ 0) ↔ (((parse_model bs).refusal ≡ 0) × (LeavesUnreset (parse_model bs).model → ⊥))
  unfolding read_model
  accepted_law = (
    judged_ind (λ (r : Reading). r.refusal ≡ 0 → ((parse_model bs).refusal ≡ 0) × (LeavesUnreset (parse_model bs).model → ⊥)) (parse_model bs)
        (λ ne e. absurd (ne e))
        (λ _ _ e. absurd (omega arith))
        (λ z u _. (z, λ w. false≢true (sym u ∙ (unreset_law (parse_model bs).model ((parsed bs).lawful z)).1 w))),
    λ (z, none).
        judged_ind (λ (r : Reading). r.refusal ≡ 0) (parse_model bs)
        (λ ne. absurd (ne z))
        (λ _ u. absurd (none ((unreset_law (parse_model bs).model ((parsed bs).lawful z)).0 u)))
        (λ _ _. z),
  )

  pub refused_7_law : ((read_model bs).refusal ≡ 7) ↔ (((parse_model bs).refusal ≡ 0) × LeavesUnreset (parse_model bs).model)
  unfolding read_model
  refused_7_law =
      let six = (parsed bs).refusal in (
        judged_ind (λ (r : Reading). r.refusal ≡ 7 → ((parse_model bs).refusal ≡ 0) × LeavesUnreset (parse_model bs).model) (parse_model bs)
            (λ _ e. absurd (omega arith))
            (λ z u _. (z, (unreset_law (parse_model bs).model ((parsed bs).lawful z)).0 u))
            (λ z _ e. absurd (omega arith)),
        λ (z, w).
            judged_ind (λ (r : Reading). r.refusal ≡ 7) (parse_model bs)
            (λ ne. absurd (ne z))
            (λ _ _. refl)
            (λ _ u. absurd (false≢true (sym u ∙ (unreset_law (parse_model bs).model ((parsed bs).lawful z)).1 w))),
      )

  module _ (e : (read_model bs).refusal ≡ 0) where
    pub accepted_lawful : Lawful (read_model bs).model
    accepted_lawful = simp (accepted_parse e) ((parsed bs).lawful (accepted_law.0 e).0)

    -- each closed walk resets each clock
    pub accepted_resets : LeavesUnreset (read_model bs).model → ⊥
    accepted_resets = simp (accepted_parse e) (accepted_law.0 e).1
