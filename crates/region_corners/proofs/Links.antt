-- Chains through the slots below a bound, and one slot more in front of a chain.
use Prim.Native.Nat.{ℕ, zero, suc, ◌+◌, ◌≤◌, ◌<◌}
use native.Mathlib.Omega.{arith}
use native.Mathlib.Decide.{ℕ_discrete}
use native.Mathlib.Numerals.{add-one}
use mathlib.Core.Path.{◌≡◌, refl, sym, ap, ◌∙◌}
use mathlib.Core.Logic.{◌↔◌, ⊎_elim}
use mathlib.Core.List.Memᴰ
use mathlib.Core.List.{List, [], ◌∷◌, ◌++◌, Memᴰ}
use lib.ListN.{length, get_or, set, replicate, length-set, length-replicate, get_or-replicate}
use lib.Seq.{get_or-set_same, get_or-set_other}
use Rattle.theory.specs.Adjacency.{Chain, end, slot, Chains}

-- ---- a list that a loop fills with zeros

zero_later : (v : ℕ) (l : List ℕ) → replicate v 0 ++ (0 ∷ l) ≡ 0 ∷ (replicate v 0 ++ l)
zero_later zero l = refl
zero_later (suc v) l = ap (λ (m : List ℕ). 0 ∷ m) (zero_later v l)

-- ---- chains

-- a chain is untouched by a store at a place that is none of its slots
pub chain_kept : {link l : List ℕ} {from : ℕ} → Chain link from l → (i x : ℕ) → ((s : ℕ) → Memᴰ s l → s ≡ i → ⊥)
    → Chain (set link i x) from l
chain_kept end i x h = end
chain_kept {link} (slot {s = s} {l = l} a b c) i x h =
    let e : get_or (set link i x) s 0 ≡ get_or link s 0 = get_or-set_other link i s x 0 (h s (Memᴰ.head refl)) in
    slot {s = s} {l = l} (rw (length-set link i x) a) (rw e b) (rw e (chain_kept c i x (λ s m. h s (Memᴰ.tail m))))

-- a chain starts at one more than one of its slots
chain_start : {link l : List ℕ} {from : ℕ} → Chain link from l → (i : ℕ) → ((s : ℕ) → Memᴰ s l → s < i) → from ≤ i
chain_start end i h = omega arith
chain_start (slot {s = s} a b c) i h = omega (arith, h s (Memᴰ.head refl))

-- the chains lead through the slots below i
pub record ChainsUpto (held head link : List ℕ) (i : ℕ) : Type 0 where
  pub within : i ≤ length held
  pub long : length link ≡ length held
  pub below : (s : ℕ) → s < length held → get_or held s 0 < length head
  pub chain : (v : ℕ) → v < length head
      → (l : List ℕ) × Chain link (get_or head v 0) l × ((s : ℕ) → Memᴰ s l ↔ ((s < i) × (get_or held s 0 ≡ v)))

pub chains_start : (held head link : List ℕ) (k : ℕ) → length link ≡ length held → ((s : ℕ) → s < length held → get_or held s 0 < k)
    → head ≡ replicate k 0 → ChainsUpto held head link 0
chains_start held head link k e b z = record {
  within = omega arith;
  long = e;
  below = λ s h. rw (z, length-replicate {A = ℕ} k 0) (b s h);
  chain = λ v h.
      let n : length head ≡ k = ap length z ∙ length-replicate k 0 in
      ([], rw (z, get_or-replicate {A = ℕ} k v 0 0 (omega arith)) end, λ s. (λ m. absurd (Memᴰ.not-nil m), λ (a, b). absurd (omega arith)));
}

module _ {held head link : List ℕ} {i : ℕ} (L : ChainsUpto held head link i) (v : ℕ) (e : get_or held i 0 ≡ v) (c : i < length held) where
  -- the number of slot i has a chain
  pub chains_held : v < length head
  chains_held = rw e at (L.below i c)

  -- the chain of another number
  others : (u : ℕ) → (u ≡ v → ⊥) → u < length head
      → (l : List ℕ) × Chain (set link i (get_or head v 0)) (get_or (set head v (i + 1)) u 0) l
      × ((s : ℕ) → Memᴰ s l ↔ ((s < i + 1) × (get_or held s 0 ≡ u)))
  others u n h =
      let (l, k, m) = L.chain u h in (
        l,
        rw (get_or-set_other head v u (i + 1) 0 n) (chain_kept k i (get_or head v 0) (λ s j q. omega (arith, ((m s).0 j).0))),
        λ s. (
          λ j. let (p, q) = (m s).0 j in (omega arith, q),
          λ (p, q). by s q p (ℕ_discrete s i) (m s).1,
        ),
      )
    where
      by : (s : ℕ) → get_or held s 0 ≡ u → s < i + 1 → Dec (s ≡ i) → ((s < i) × (get_or held s 0 ≡ u) → Memᴰ s (L.chain u h).0)
          → Memᴰ s (L.chain u h).0
      by s q p (yes d) f = absurd (n (sym q ∙ ap (λ (k : ℕ). get_or held k 0) d ∙ e))
      by s q p (no d) f = f (omega (arith, d), q)

  -- its own chain
  own : (l : List ℕ) × Chain (set link i (get_or head v 0)) (get_or (set head v (i + 1)) v 0) l
      × ((s : ℕ) → Memᴰ s l ↔ ((s < i + 1) × (get_or held s 0 ≡ v)))
  own =
      let (l, k, m) = L.chain v chains_held in
      let x = get_or head v 0 in
      let d : i < length link = omega (arith, L.long) in
      let q : get_or (set link i x) i 0 ≡ x = get_or-set_same link i x 0 d in
      let f : Chain (set link i x) (suc i) (i ∷ l)
      = slot {s = i} {l = l} (rw (length-set link i x) d) (rw q (chain_start k i (λ s j. ((m s).0 j).0)))
      (rw q (chain_kept k i x (λ s j r. omega (arith, ((m s).0 j).0)))) in (
        i ∷ l,
        rw (get_or-set_same head v (i + 1) 0 chains_held, add-one i) f,
        λ s. (
          λ j. ⊎_elim (λ (r : s ≡ i). (omega arith, ap (λ (k : ℕ). get_or held k 0) r ∙ e)) (λ j. (omega (arith, ((m s).0 j).0), ((m s).0 j).1))
              (Memᴰ.cases_cons j),
          λ (p, r). by s p r (ℕ_discrete s i) (m s).1,
        ),
      )
    where
      by : (s : ℕ) → s < i + 1 → get_or held s 0 ≡ v → Dec (s ≡ i) → ((s < i) × (get_or held s 0 ≡ v) → Memᴰ s (L.chain v chains_held).0)
          → Memᴰ s (i ∷ (L.chain v chains_held).0)
      by s p r (yes d) f = Memᴰ.head d
      by s p r (no d) f = Memᴰ.tail (f (omega (arith, d), r))

  -- slot i goes in front of the chain of the number that it holds
  pub chains_next : ChainsUpto held (set head v (i + 1)) (set link i (get_or head v 0)) (i + 1)
  chains_next = record {
    within = omega arith;
    below = λ s h. rw (length-set head v (i + 1)) (L.below s h);
    long = length-set link i (get_or head v 0) ∙ L.long;
    chain = λ u h. by u (rw (length-set head v (i + 1)) at h) (ℕ_discrete u v);
  }
    where
      by : (u : ℕ) → u < length head → Dec (u ≡ v)
          → (l : List ℕ) × Chain (set link i (get_or head v 0)) (get_or (set head v (i + 1)) u 0) l
          × ((s : ℕ) → Memᴰ s l ↔ ((s < i + 1) × (get_or held s 0 ≡ u)))
      by u h (yes d) = rw d own
      by u h (no d) = others u d h

pub chains_end : {held head link : List ℕ} {i : ℕ} → ChainsUpto held head link i → length held ≤ i → Chains held head link
chains_end {held} {i = i} L h = let e : i ≡ length held = omega (arith, L.within) in record { long = L.long; chain = rw e at L.chain }
