-- The test of an edge is the paper's; flags that are put one by one.
use Prim.Native.Nat.{ℕ, zero, suc, ◌+◌, ◌≤◌, ◌<◌}
use native.Mathlib.Omega.{arith}
use mathlib.Core.Path.{◌≡◌, refl, sym, ap, subst, ◌∙◌}
use mathlib.Core.Logic.{◌↔◌}
use mathlib.Core.List.{List, [], ◌∷◌}
use mathlib.Core.Bool.{Bool, true, false, ◌&&◌}
use lib.ListN.{length, set}
use lib.Seq.{get_or-set_same, get_or-set_other}
use Rattle.std.specs.Prelude.{map}
use Rattle.std.specs.List.{list_any}
use Rattle.std.proofs.lemmas.List.{map-set}
use Rattle.model.specs.Each.{some_below, all_below}
use lib.Dec.{eqb, leb}
use borrow.Author.Tests.{eqb-true, eqb-false, leb-true, le-leb}
use Rattle.limits.specs.Limits.{max_locations}
use Rattle.model.specs.declared.Model.{Model}
use Rattle.model.specs.Model.{Lawful, source_of, target_of, limit_at, low_at, keeps}
use Rattle.model.proofs.Each.{false≢true, some_law, all_law}
use Rattle.edge_walks.specs.Opening.{OpensAlone, lets_open, opens_for, opens_alone, marked_at, flag_at, flag_of}
use Rattle.edge_walks.specs.Cycle.{Counts, counts}

-- an edge joins two of the locations that there may be
pub ends_below : (m : Model) → Lawful m → (e : ℕ) → (source_of m e < max_locations) × (target_of m e < max_locations)
ends_below m ok e = (omega (arith, ok.ranges.source e, ok.locations.1), omega (arith, ok.ranges.target e, ok.locations.1))

and_parts : (a b : Bool) → (a && b) ≡ true → (a ≡ true) × (b ≡ true)
and_parts true b e = (refl, e)
and_parts false b e = absurd (false≢true e)

both : (a b : Bool) → a ≡ true → b ≡ true → (a && b) ≡ true
both true b p q = q
both false b p q = absurd (false≢true p)

pub and_law : {P Q : Type 0} (a b : Bool) → (a ≡ true) ↔ P → (b ≡ true) ↔ Q → ((a && b) ≡ true) ↔ (P × Q)
and_law a b p q = (λ h. let (s, t) = and_parts a b h in (p.0 s, q.0 t), λ (s, t). both a b (p.1 s) (q.1 t))

-- ---- which edges can open alone

lets_law : (low from to : ℕ) (kept : Bool) → (lets_open low from to kept ≡ true) ↔ ((low ≤ from) × (kept ≡ true → low ≤ to))
lets_law low from to true = (
  λ h. let (a, b) = and_parts (leb low from) (leb low to) h in (leb-true low from a, λ _. leb-true low to b),
  λ (a, b). both (leb low from) (leb low to) (le-leb low from a) (le-leb low to (b refl)),
)
lets_law low from to false = (
  λ h. let (a, b) = and_parts (leb low from) true h in (leb-true low from a, λ z. absurd (false≢true z)),
  λ (a, b). both (leb low from) true (le-leb low from a) refl,
)

module _ (m : Model) (e : ℕ) where
  for_law : (x : ℕ) → (opens_for m e x ≡ true)
      ↔ ((low_at m e x ≤ limit_at m (source_of m e) x) × (keeps m x e ≡ true → low_at m e x ≤ limit_at m (target_of m e) x))
  for_law x = lets_law (low_at m e x) (limit_at m (source_of m e) x) (limit_at m (target_of m e) x) (keeps m x e)

  pub opens_law : (opens_alone m e ≡ true) ↔ OpensAlone m e
  unfolding opens_alone
  opens_law = (
    λ h. let each_lets = (all_law m.clocks (opens_for m e)).0 h in
        record { leaves = λ x b. ((for_law x).0 (each_lets x b)).0; enters = λ x b. ((for_law x).0 (each_lets x b)).1 },
    λ o. (all_law m.clocks (opens_for m e)).1 (λ x b. (for_law x).1 (o.leaves x b, o.enters x b)),
  )

  pub counts_law : (x : ℕ) → (counts m x e ≡ true) ↔ Counts m x e
  counts_law x = and_law (keeps m x e) (opens_alone m e) (λ k. k, λ k. k) opens_law

-- ---- marks as flags

flag_is : (b : Bool) → eqb (flag_of b) 1 ≡ b
flag_is true = refl
flag_is false = refl

pub mark_is : (a : List Bool) (i : ℕ) → marked_at (map flag_of a) i ≡ flag_at a i
mark_is [] i = refl
mark_is (b ∷ a) zero = flag_is b
mark_is (b ∷ a) (suc i) = mark_is a i

-- for the loop that sets marks
pub ruleset marks = (mark_is, map-set)

-- a test that fails somewhere
pub all_not : (n i : ℕ) (t : ℕ → Bool) → i < n → t i ≡ false → false ≡ all_below n t
all_not n i t h e = by (all_below n t) refl
  where
    by : (b : Bool) → all_below n t ≡ b → false ≡ all_below n t
    by true q = absurd (false≢true (sym e ∙ (all_law n t).0 q i h))
    by false q = sym q

-- a test that passes somewhere
pub some_so : (n i : ℕ) (t : ℕ → Bool) → i < n → t i ≡ true → true ≡ some_below n t
some_so n i t h e = sym ((some_law n t).1 (i, h, e))

-- the next flag
pub put_flag : (P : ℕ → Bool → Type 0) (flags : List Bool) (e : ℕ) (b : Bool) → e < length flags → P e b → ((i : ℕ) → i < e → P i (flag_at flags i))
    → (i : ℕ) → i < e + 1 → P i (flag_at (set flags e b) i)
put_flag P flags e b room is before i h = by (eqb i e) refl
  where
    by : (s : Bool) → eqb i e ≡ s → P i (flag_at (set flags e b) i)
    by true q = rw (eqb-true i e q) (subst (P e) (sym (get_or-set_same flags e b false room)) is)
    by false q = let other = eqb-false i e q in subst (P i) (sym (get_or-set_other flags e i b false other)) (before i (omega arith))

-- ---- some mark is left

any_found : (a : List Bool) → list_any (λ b. b) a ≡ true → (i : ℕ) × (i < length a) × (flag_at a i ≡ true)
any_found [] e = absurd (false≢true e)
any_found (true ∷ a) e = (0, omega arith, refl)
any_found (false ∷ a) e = let r = any_found a e in (suc r.0, omega (arith, r.1), r.2)

found_any : (a : List Bool) (i : ℕ) → flag_at a i ≡ true → list_any (λ b. b) a ≡ true
found_any [] i e = absurd (false≢true e)
found_any (true ∷ a) i e = refl
found_any (false ∷ a) zero e = absurd (false≢true e)
found_any (false ∷ a) (suc i) e = found_any a i e

same : (a b : Bool) → (a ≡ true → b ≡ true) → (b ≡ true → a ≡ true) → a ≡ b
same true b f g = sym (f refl)
same false true f g = absurd (false≢true (g refl))
same false false f g = refl

pub any_mark : (a : List Bool) → length a ≡ max_locations → list_any (λ b. b) a ≡ some_below max_locations (marked_at (map flag_of a))
any_mark a long =
    let law = some_law max_locations (marked_at (map flag_of a)) in
    same _ _
    (λ e. let r = any_found a e in law.1 (r.0, omega (arith, r.1, long), mark_is a r.0 ∙ r.2))
    (λ e. let r = law.0 e in found_any a r.0 (sym (mark_is a r.0) ∙ r.2))
