-- The chains of the heights.
use mathlib.Core.Path.{◌≡◌, sym, ◌∙◌}
use mathlib.Core.List.{List, Memᴰ}
use mathlib.Core.Logic.{◌↔◌}
use Prim.Native.Nat.{ℕ, ◌+◌, ◌≤◌, ◌<◌}
use native.Mathlib.Omega.{arith}
use lib.ListN.{length, get_or, set, replicate}
use Rattle.theory.specs.Sheet.{height_of}
use Rattle.theory.specs.Adjacency.{Chain, Chains}
use Rattle.theory.proofs.Below.{tab-length, tab_at}
use Rattle.region_corners.proofs.Links.{ChainsUpto, chains_start, chains_held, chains_next, chains_end}
use Rattle.fringe_ranks.specs.Ranks.{heights_in, HeightsRoom}

heights_long : (sheet : List ℕ) → length (heights_in sheet) ≡ length sheet
heights_long sheet = tab-length (length sheet) (height_of sheet)

module _ {sheet heads links : List ℕ} (R : HeightsRoom sheet heads links) where
  pub heights_start : (y : List ℕ) → y ≡ replicate (length heads) 0 → ChainsUpto (heights_in sheet) y links 0
  heights_start y z =
      chains_start (heights_in sheet) y links (length heads) (R.links_long ∙ sym (heights_long sheet))
      (λ p b. let c : p < length sheet = omega (arith, heights_long sheet) in rw (tab_at (length sheet) (height_of sheet) p c) (R.low p c)) z

module _ (sheet : List ℕ) {heads links : List ℕ} {p : ℕ} (U : ChainsUpto (heights_in sheet) heads links p) (b : p < length sheet) where
  there : p < length (heights_in sheet)
  there = rw (heights_long sheet) b

  held : get_or (heights_in sheet) p 0 ≡ height_of sheet p
  held = tab_at (length sheet) (height_of sheet) p b

  pub heights_head : height_of sheet p < length heads
  heights_head = chains_held U (height_of sheet p) held there

  pub heights_next : ChainsUpto (heights_in sheet) (set heads (height_of sheet p) (p + 1)) (set links p (get_or heads (height_of sheet p) 0)) (p + 1)
  heights_next = chains_next U (height_of sheet p) held there

pub heights_end : (sheet : List ℕ) {heads links : List ℕ} {p : ℕ} → ChainsUpto (heights_in sheet) heads links p → length sheet ≤ p → Chains (heights_in sheet) heads links
heights_end sheet U h = chains_end U (omega (arith, heights_long sheet))

-- the chain of a height leads through the states that have it
pub heights_chain : (sheet : List ℕ) {heads links : List ℕ} → Chains (heights_in sheet) heads links → (h : ℕ) → h < length heads
    → (l : List ℕ) × Chain links (get_or heads h 0) l × ((p : ℕ) → Memᴰ p l ↔ ((p < length sheet) × (height_of sheet p ≡ h)))
heights_chain sheet C h b =
    let (l, c, m) = C.chain h b in (
      l,
      c,
      λ p. (
        λ n.
            let (s, e) = (m p).0 n in
            let d : p < length sheet = omega (arith, heights_long sheet) in
            (d, sym (tab_at (length sheet) (height_of sheet) p d) ∙ e),
        λ (d, e). (m p).1 (rw (heights_long sheet) d, tab_at (length sheet) (height_of sheet) p d ∙ e),
      ),
    )
