-- A loop that copies what passes a test to the front of a slice, and what it leaves of the table.
use Prim.Native.Nat.{ℕ, zero, suc, ◌+◌, ◌-◌, ◌<◌, ◌≤◌}
use native.Mathlib.Omega.{arith}
use native.Mathlib.Decide.{dec_lt}
use native.Mathlib.Nat.{add-zero}
use native.Mathlib.Numerals.{add-one}
use mathlib.Core.Path.{◌≡◌, refl, sym, ap, ◌∙◌, subst}
use mathlib.Core.Bool.{Bool, true, false, cond}
use mathlib.Core.List.{List, [], ◌∷◌, ◌++◌, append_assoc, append-nil}
use lib.ListN.{length, get_or, take, drop, set, length-append, length-set}
use lib.Seq.{take-suc, take_all, drop-cons, set_at}
use Rattle.theory.specs.Lists.{keep}
use Rattle.theory.specs.Region.{regions}
use Rattle.theory.proofs.Sorted.{keep-append}
use Rattle.region.specs.Limits.{Clocks, Ceiling}
use Rattle.region_table.specs.Table.{packed_regions, packed, chosen, Skips}
use Rattle.region_table.proofs.Packed.{packed_length}
use Rattle.region_table.proofs.Chosen.{chosen_law}

-- one element more is tried
keep_next : (f : ℕ → Bool) (l : List ℕ) (i : ℕ) (b : Bool) → i < length l → f (get_or l i 0) ≡ b
    → keep f (take (i + 1) l) ≡ keep f (take i l) ++ cond b (get_or l i 0 ∷ []) []
keep_next f l i b h e =
    ap (λ (j : ℕ). keep f (take j l)) (add-one i) ∙ ap (keep f) (take-suc l i 0 h) ∙ keep-append f (take i l) (get_or l i 0 ∷ []) ∙ rw e

-- the first i elements of l have been tried, and the k of them that pass stand at the front of out
pub record Filled (f : ℕ → Bool) (l out₀ out : List ℕ) (i k : ℕ) : Type 0 where
  pub within : i ≤ length l
  pub count : length (keep f (take i l)) ≡ k
  pub few : k ≤ i
  pub same : length out ≡ length out₀
  pub holds : out ≡ keep f (take i l) ++ drop k out₀

pub filled_start : (f : ℕ → Bool) (l out : List ℕ) → Filled f l out out 0 0
filled_start f l out = record { within = omega arith; count = refl; few = omega arith; same = refl; holds = refl }

module _ (f : ℕ → Bool) (l out₀ out : List ℕ) (i k : ℕ) (v : Filled f l out₀ out i k) where
  pub filled_in : i < length l → length l ≤ length out₀ → f (get_or l i 0) ≡ true → Filled f l out₀ (set out k (get_or l i 0)) (i + 1) (k + 1)
  filled_in h r e =
      let x = get_or l i 0 in
      let a = keep f (take i l) in
      let q : keep f (take (i + 1) l) ≡ a ++ (x ∷ []) = keep_next f l i true h e in
      let lt : k < length out₀ = omega (arith, v.few) in
      record {
        within = omega arith;
        count = ap length q ∙ length-append a (x ∷ []) ∙ ap (λ (m : ℕ). m + 1) v.count;
        few = omega (arith, v.few);
        same = length-set out k x ∙ v.same;
        holds =
            ap (λ (o : List ℕ). set o k x) (v.holds ∙ ap (λ (d : List ℕ). a ++ d) (drop-cons out₀ k 0 lt))
            ∙ set_at a (get_or out₀ k 0) (drop (suc k) out₀) x k v.count
            ∙ sym (rw (q, add-one) (append_assoc a (x ∷ []) (drop (suc k) out₀)));
      }

  pub filled_out : i < length l → f (get_or l i 0) ≡ false → Filled f l out₀ out (i + 1) k
  filled_out h e =
      let a = keep f (take i l) in
      let q : keep f (take (i + 1) l) ≡ a = keep_next f l i false h e ∙ append-nil a in
      record { within = omega arith; count = rw q v.count; few = omega (arith, v.few); same = v.same; holds = rw q v.holds }

  pub filled_end : length l ≤ i → (k ≡ length (keep f l)) × (out ≡ keep f l ++ drop k out₀)
  filled_end h = let q : take i l ≡ l = take_all i l h in (sym (rw q at v.count), rw q at v.holds)

-- several elements that do not pass
filled_past : (f : ℕ → Bool) (l out₀ out : List ℕ) (i k d : ℕ) → Filled f l out₀ out i k → i + d ≤ length l
    → ((x : ℕ) → i ≤ x → x < i + d → f (get_or l x 0) ≡ false) → Filled f l out₀ out (i + d) k
filled_past f l out₀ out i k zero v h n = rw (add-zero i) v
filled_past f l out₀ out i k (suc d) v h n =
    let w = filled_past f l out₀ out i k d v (omega arith) (λ x a b. n x a (omega arith)) in
    let e : i + d + 1 ≡ i + suc d = omega arith in
    subst (λ (j : ℕ). Filled f l out₀ out j k) e (filled_out f l out₀ out (i + d) k w (omega arith) (n (i + d) (omega arith) (omega arith)))

module _ (n M : ℕ) (out₀ out : List ℕ) (i k : ℕ) (v : Filled (chosen n M) packed out₀ out i k) where
  pub filled_skip : (j : ℕ) → chosen n M (get_or packed i 0) ≡ false → Skips n M packed i j → Filled (chosen n M) packed out₀ out j k
  filled_skip j e s =
      let q : i + (j - i) ≡ j = omega (arith, s.later) in
      subst (λ (j : ℕ). Filled (chosen n M) packed out₀ out j k) q
      (filled_past (chosen n M) packed out₀ out i k (j - i) v (omega (arith, s.within)) (λ x a b. none x a (omega arith) (dec_lt i x)))
    where
      none : (x : ℕ) → i ≤ x → x < j → Dec (i < x) → chosen n M (get_or packed x 0) ≡ false
      none x a b (yes q) = s.none x q b
      none x a b (no q) = let d : x ≡ i = omega (arith, q) in rw d e

  pub selects : Clocks n → Ceiling M → length packed ≤ i → (k ≡ length (regions n M)) × (out ≡ packed_regions n M ++ drop k out₀)
  selects h c l =
      let (a, b) = filled_end (chosen n M) packed out₀ out i k v l in
      let e = chosen_law n M h c in
      (a ∙ ap length e ∙ packed_length n M, b ∙ ap (λ (x : List ℕ). x ++ drop k out₀) e)
