-- The points that are noted, slot by slot and region by region, and the regions that have one of them as a corner.
use mathlib.Core.Path.{◌≡◌, sym, ap, ◌∙◌}
use mathlib.Core.Bool.{Bool, true, false, true≢false}
use mathlib.Core.Logic.{◌↔◌, ◌⊎◌, inl, inr, ⊎_elim}
use mathlib.Core.List.{List}
use Prim.Native.Nat.{ℕ, ◌+◌, ◌*◌, ◌<◌}
use native.Mathlib.Omega.{arith}
use native.Mathlib.Decide.{ℕ_discrete}
use lib.ListN.{length, get_or, set, replicate, length-set, length-replicate, get_or-replicate}
use lib.Seq.{get_or-set_same, get_or-set_other}
use Rattle.std.specs.Bool.{MatchBool}
use Rattle.std.specs.List.{All, between, AllWithin, HoldsAt}
use Rattle.std.proofs.lemmas.List.Elements.{All-from_get_or}
use Rattle.std.proofs.lemmas.List.Edits.{length-between, get_or-between}
use Rattle.theory.specs.Sheet.{in_of}
use Rattle.limits.specs.Limits.{slot_count, point_count}
use Rattle.sheet_rules.specs.Tables.{Slots}
use Rattle.sheet_rules.specs.Rules.{HasCorner, InCorner, Noted, Touched}
use Rattle.sheet_rules.proofs.Keeps.{told, denied}

-- the numbers in the slots of region i
abbrev pub slots_of : List ℕ → ℕ → List ℕ
slots_of corner i = between (slot_count * i) (slot_count * i + slot_count) corner

module _ {R : ℕ} {corner : List ℕ} (Z : Slots R corner) (i : ℕ) (b : i < R) where
  pub slots_long : length (slots_of corner i) ≡ slot_count
  slots_long = omega (arith, length-between corner (slot_count * i) (slot_count * i + slot_count) (omega (arith, Z.long)))

  pub slots_at : (k : ℕ) → k < slot_count → get_or (slots_of corner i) k 0 ≡ get_or corner (slot_count * i + k) 0
  slots_at k h = get_or-between corner (slot_count * i) (slot_count * i + slot_count) k 0 (omega arith)

  pub point_below : (k : ℕ) → k < slot_count → get_or corner (slot_count * i + k) 0 < point_count
  point_below k h = Z.below (slot_count * i + k) (omega (arith, Z.long))

  pub slots_below : All (λ v. v < point_count) (slots_of corner i)
  slots_below = All-from_get_or (λ v. v < point_count) (slots_of corner i) 0 λ k h. rw (slots_at k (omega (arith, slots_long))) (point_below k (omega (arith, slots_long)))

-- the corners of the in-states before region i are noted, and of region i those in the first n slots
pub record PartNoted (sheet corner noted : List ℕ) (base i n : ℕ) : Type 0 where
  pub long : length noted ≡ point_count
  pub is : (v : ℕ) → v < point_count → (get_or noted v 0 ≡ 1) ↔ (InCorner sheet corner base i v ⊎ HasCorner corner i n v)

corner_later : {sheet corner : List ℕ} {base i v : ℕ} → InCorner sheet corner base i v → InCorner sheet corner base (i + 1) v
corner_later c = record { region = c.region; below = omega (arith, c.below); inside = c.inside; corner_of = c.corner_of }

pub noted_none : (sheet corner : List ℕ) (base : ℕ) → Noted sheet corner (replicate point_count 0) base 0
noted_none sheet corner base = record {
  long = length-replicate {A = ℕ} point_count 0;
  is = λ v b. (λ t. absurd (omega (arith, get_or-replicate {A = ℕ} point_count v 0 0 b)), λ c. absurd (omega (arith, c.below)));
}

module _ {sheet corner noted : List ℕ} {base i : ℕ} where
  -- region i is out
  pub noted_out : in_of sheet (base + i) ≡ false → Noted sheet corner noted base i → Noted sheet corner noted base (i + 1)
  noted_out o N = record {
    long = N.long;
    is = λ v b. (λ t. corner_later ((N.is v b).0 t), λ c. (N.is v b).1 (before c (ℕ_discrete c.region i)));
  }
    where
      before : {v : ℕ} (c : InCorner sheet corner base (i + 1) v) → Dec (c.region ≡ i) → InCorner sheet corner base i v
      before c (yes e) = absurd (true≢false (sym c.inside ∙ rw e o))
      before c (no e) = record { region = c.region; below = omega (arith, c.below, e); inside = c.inside; corner_of = c.corner_of }

  pub part_first : Noted sheet corner noted base i → PartNoted sheet corner noted base i 0
  part_first N = record {
    long = N.long;
    is = λ v b. (λ t. inl ((N.is v b).0 t), ⊎_elim (N.is v b).1 (λ h. absurd (omega (arith, h.below))));
  }

  pub part_more : (k : ℕ) → PartNoted sheet corner noted base i k → get_or corner (slot_count * i + k) 0 < point_count
      → PartNoted sheet corner (set noted (get_or corner (slot_count * i + k) 0) 1) base i (k + 1)
  part_more k N l = record { long = length-set noted point 1 ∙ N.long; is = λ v b. by v b (ℕ_discrete v point) }
    where
      point : ℕ
      point = get_or corner (slot_count * i + k) 0

      wider : {v : ℕ} → HasCorner corner i k v → HasCorner corner i (k + 1) v
      wider h = record { slot = h.slot; below = omega (arith, h.below); is = h.is }

      before : {v : ℕ} (h : HasCorner corner i (k + 1) v) → (v ≡ point → ⊥) → Dec (h.slot ≡ k) → HasCorner corner i k v
      before h n (yes e) = absurd (n (sym h.is ∙ ap (λ (s : ℕ). get_or corner (slot_count * i + s) 0) e))
      before h n (no e) = record { slot = h.slot; below = omega (arith, h.below, e); is = h.is }

      by : (v : ℕ) → v < point_count → Dec (v ≡ point)
          → (get_or (set noted point 1) v 0 ≡ 1) ↔ (InCorner sheet corner base i v ⊎ HasCorner corner i (k + 1) v)
      by v b (yes e) = (
        λ t. inr (record { slot = k; below = omega arith; is = sym e }),
        λ t. rw e (get_or-set_same noted point 1 0 (omega (arith, N.long))),
      )
      by v b (no e) = (
        λ t. ⊎_elim inl (λ h. inr (wider h)) ((N.is v b).0 (sym (get_or-set_other noted point v 1 0 e) ∙ t)),
        λ t. get_or-set_other noted point v 1 0 e ∙ (N.is v b).1 (⊎_elim inl (λ h. inr (before h e (ℕ_discrete h.slot k))) t),
      )

  -- region i is in
  pub part_end : in_of sheet (base + i) ≡ true → PartNoted sheet corner noted base i slot_count → Noted sheet corner noted base (i + 1)
  part_end t N = record {
    long = N.long;
    is = λ v b. (
      λ e. ⊎_elim corner_later (λ h. record { region = i; below = omega arith; inside = t; corner_of = h }) ((N.is v b).0 e),
      λ c. (N.is v b).1 (split c (ℕ_discrete c.region i)),
    );
  }
    where
      split : {v : ℕ} (c : InCorner sheet corner base (i + 1) v) → Dec (c.region ≡ i)
          → InCorner sheet corner base i v ⊎ HasCorner corner i slot_count v
      split c (yes e) = inr (rw e at c.corner_of)
      split c (no e) = inl (record { region = c.region; below = omega (arith, c.below, e); inside = c.inside; corner_of = c.corner_of })

-- ---- touched

module _ {sheet corner noted : List ℕ} {base R : ℕ} (Z : Slots R corner) (N : Noted sheet corner noted base R) (i : ℕ) (b : i < R) where
  -- the flag of a point
  abbrev pub Flag : ℕ → Type 0
  Flag v = get_or noted v 0 ≡ 1

  -- a test for one of the flags of the region's slots, told by the first or by none
  pub touched_any : (r : Bool)
      → MatchBool r ((k : ℕ) × (k < length (slots_of corner i)) × HoldsAt Flag (slots_of corner i) k)
      (AllWithin (λ v. Flag v → ⊥) (slots_of corner i) 0 (length (slots_of corner i)))
      → (r ≡ true) ↔ Touched sheet corner base R i
  touched_any true (k, l, f) =
      let h : k < slot_count = omega (arith, slots_long Z i b) in
      let c = (N.is (get_or corner (slot_count * i + k) 0) (point_below Z i b k h)).0 (rw (slots_at Z i b k h) at (f 0)) in
      told (record {
        region = c.region;
        below = c.below;
        inside = c.inside;
        shared = record { left = c.corner_of.slot; right = k; left_below = c.corner_of.below; right_below = h; same = c.corner_of.is };
      })
  touched_any false none = denied λ t.
      let s = t.shared in
      let f = (N.is (get_or corner (slot_count * i + s.right) 0) (point_below Z i b s.right s.right_below)).1
      (record { region = t.region; below = t.below; inside = t.inside; corner_of = record { slot = s.left; below = s.left_below; is = s.same } }) in
      none s.right 0 (omega arith) (omega (arith, slots_long Z i b, s.right_below)) (rw (slots_at Z i b s.right s.right_below) f)
