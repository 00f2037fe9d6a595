-- Evidence and verdict: what a passing sheet and a passing trail show, that ours pass where they should, and that a system has passing
-- evidence of just one kind.
use mathlib.Core.Path.{◌≡◌, sym, ◌∙◌}
use mathlib.Core.Bool.{true, false, not, true≢false}
use mathlib.Core.Logic.{◌↔◌, ◌⊎◌, inl, inr, ⊎_elim}
use mathlib.Core.List.{List}
use Prim.Native.Nat.{ℕ}
use Rattle.theory.specs.System.{System, Laws}
use Rattle.theory.specs.Marked.{MarkedIn, Unsafe, unsafe}
use Rattle.theory.specs.Sheet.{Sheet, in_of, height_of, sheet_test, our_sheet}
use Rattle.theory.specs.Labels.{LabelledSystem, LabelledLaws}
use Rattle.theory.specs.Replay.{Move, Passes, replay_states, passes, our_moves}
use Rattle.theory.proofs.Below.{either, bool_ext, false_unless_true}
use Rattle.theory.proofs.Marked.{unsafe_is, is_unsafe, safe_is, marked_allowed}
use Rattle.theory.proofs.Sheet.{rules_marked, sheet_is, is_sheet, our_sheet_passes}
use Rattle.theory.proofs.Trail.{trail_unsafe, unsafe_trail}
use Rattle.theory.proofs.Replay.{passes_law, passes_trail, our_moves_pass}

-- ---- sheets

module _ (Y : System) (L : Laws Y) where
  -- a passing sheet has every marked state in, and none of them is forbidden
  pub sheet_sound : (l : List ℕ) → sheet_test Y l ≡ true → (s : ℕ) → MarkedIn Y s → (in_of l s ≡ true) × (Y.forbidden s ≡ false)
  sheet_sound l e s m =
      let K = (sheet_is Y L l e).rules in
      let i = rules_marked Y (in_of l) (height_of l) K m in
      (i, K.none_forbidden s (L.allowed_below s (marked_allowed Y L m)) i)

  -- where no marked state is forbidden, ours passes
  pub sheet_complete : ((s : ℕ) → MarkedIn Y s → Y.forbidden s ≡ false) → sheet_test Y (our_sheet Y) ≡ true
  sheet_complete g = is_sheet Y L (our_sheet Y) (our_sheet_passes Y L g)

  pub sheet_safe : (l : List ℕ) → sheet_test Y l ≡ true → unsafe Y ≡ false
  sheet_safe l e = false_unless_true (unsafe Y) λ u.
      let (s, m, b) = unsafe_is Y L u in
      true≢false (sym b ∙ (sheet_sound l e s m).1)

  pub our_sheet_verdict : sheet_test Y (our_sheet Y) ≡ not (unsafe Y)
  our_sheet_verdict =
      ⊎_elim
      (λ u. rw u (false_unless_true (sheet_test Y (our_sheet Y)) λ e. true≢false (sym u ∙ sheet_safe (our_sheet Y) e)))
      (λ u. rw u (sheet_complete (safe_is Y L u)))
      (either (unsafe Y))

-- ---- trails

module _ (P : LabelledSystem) (M : LabelledLaws P) where
  -- a passing trail shows a marked state that is forbidden
  pub trail_sound : (ms : List Move) → passes P ms ≡ true → Unsafe P.system
  trail_sound ms e = trail_unsafe P.system M.laws (replay_states P ms P.system.start) (passes_trail P M ms ((passes_law P ms).0 e))

  -- where there is one, ours passes
  pub trail_complete : Unsafe P.system → passes P (our_moves P) ≡ true
  trail_complete u = let (l, t) = unsafe_trail P.system M.laws u in (passes_law P (our_moves P)).1 (our_moves_pass P M l t)

  -- some trail passes exactly when a marked state is forbidden
  pub trail_exactly : ((ms : List Move) × (passes P ms ≡ true)) ↔ Unsafe P.system
  trail_exactly = (λ (ms, e). trail_sound ms e, λ u. (our_moves P, trail_complete u))

  pub our_trail_verdict : passes P (our_moves P) ≡ unsafe P.system
  our_trail_verdict =
      bool_ext (passes P (our_moves P)) (unsafe P.system)
      (λ e. is_unsafe P.system M.laws (trail_sound (our_moves P) e))
      (λ u. trail_complete (unsafe_is P.system M.laws u))

  -- ---- just one kind

  pub never_both : (l : List ℕ) (ms : List Move) → sheet_test P.system l ≡ true → passes P ms ≡ true → ⊥
  never_both l ms a b = true≢false (sym (is_unsafe P.system M.laws (trail_sound ms b)) ∙ sheet_safe P.system M.laws l a)

  -- either our sheet passes and no trail does, or our trail passes and no sheet does
  pub just_one_kind : ((sheet_test P.system (our_sheet P.system) ≡ true) × ((ms : List Move) → passes P ms ≡ false))
      ⊎ ((passes P (our_moves P) ≡ true) × ((l : List ℕ) → sheet_test P.system l ≡ false))
  just_one_kind =
      ⊎_elim
      (λ u.
      let e = our_trail_verdict ∙ u in
      inr (e, λ l. false_unless_true (sheet_test P.system l) λ f. never_both l (our_moves P) f e))
      (λ u.
      let e = sheet_complete P.system M.laws (safe_is P.system M.laws u) in
      inl (e, λ ms. false_unless_true (passes P ms) λ f. never_both (our_sheet P.system) ms e f))
      (either (unsafe P.system))

  -- the same in the paper's forms
  pub just_one_kind_paper : (Sheet P.system (our_sheet P.system) × ((ms : List Move) → ¬ Passes P ms))
      ⊎ (Passes P (our_moves P) × ((l : List ℕ) → ¬ Sheet P.system l))
  just_one_kind_paper =
      ⊎_elim
      (λ (e, n). inl (sheet_is P.system M.laws (our_sheet P.system) e, λ ms w. true≢false (sym ((passes_law P ms).1 w) ∙ n ms)))
      (λ (e, n). inr ((passes_law P (our_moves P)).0 e, λ l K. true≢false (sym (is_sheet P.system M.laws l K) ∙ n l)))
      just_one_kind
