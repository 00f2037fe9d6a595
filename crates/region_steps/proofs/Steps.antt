-- What a turn of each loop adds to its table, and what is found at a code.
use Prim.Native.Nat.{ℕ, ◌+◌, ◌<◌}
use native.Mathlib.Omega.{arith}
use mathlib.Core.Path.{◌≡◌, refl, sym, ap, ◌∙◌}
use mathlib.Core.List.{List, []}
use lib.ListN.{length, get_or, set}
use Rattle.theory.specs.Region.{successor, reset_clocks, close_up, regions}
use Rattle.theory.specs.StateGraph.{index_in}
use Rattle.region.specs.Limits.{Clocks, Ceiling}
use Rattle.region.specs.View.{view, struct_of, time_of, later_of, mask_bits, Known}
use Rattle.region.specs.declared.Region.{Region}
use Rattle.std.proofs.Common.{Some, None}
use Rattle.region.proofs.Known.{known_small, known_next, known_past, known_reset}
use Rattle.limits.specs.Limits.{max_clocks, code_count}
use Rattle.region_steps.specs.Codes.{code_of, reset_code}
use Rattle.region_steps.specs.Tables.{Indexed}
use Rattle.region_steps.proofs.Index.{index_past}
use Rattle.region_steps.proofs.Codes.{code_below, code_once, indexed_at}
use Rattle.region_steps.proofs.Fill.{set_next}

module _ (n M : ℕ) (clocks : Clocks n) (ceiling : Ceiling M) where
  -- the number of one more region at its code
  pub index_next : (index : List ℕ) (i at : ℕ) (g : Region) → i < length (regions n M) → Known n M g → view n g ≡ get_or (regions n M) i []
      → at ≡ code_of g → length index ≡ code_count
      → ((j : ℕ) → j < i → get_or index (code_of (struct_of (get_or (regions n M) j []))) 0 ≡ j)
      → (j : ℕ) → j < i + 1 → get_or (set index at i) (code_of (struct_of (get_or (regions n M) j []))) 0 ≡ j
  index_next index i at g l w v e long h =
      let c : at ≡ code_of (struct_of (get_or (regions n M) i []))
      = e ∙ ap code_of (sym w.padded.same) ∙ ap (λ xs. code_of (struct_of xs)) v in
      rw c (set_next (λ j. code_of (struct_of (get_or (regions n M) j []))) (λ j. j) index i
      (λ j b q. omega (arith, code_once n M clocks ceiling j i (omega arith) l q))
      (let d : code_of (struct_of (get_or (regions n M) i [])) < length index
      = omega (arith, sym c ∙ e, code_below g (known_small n M clocks ceiling g w)) in d) h i refl)

  module _ (index : List ℕ) (table : Indexed n M index) (g : Region) (w : Known n M g) where
    -- the time successor
    pub later_next : (x : Region) → later_of (time_of n M (view n g)) ≡ Some x
        → get_or index (code_of x) 0 ≡ index_in (regions n M) (successor (view n g))
    later_next x e =
        let (k, v) = known_next n M clocks ceiling g x w e in
        indexed_at n M index table x k ∙ ap (index_in (regions n M)) v

    pub later_past : later_of (time_of n M (view n g)) ≡ None → index_in (regions n M) (successor (view n g)) ≡ length (regions n M)
    later_past e = index_past n M (successor (view n g)) (known_past n M clocks ceiling g e)

    -- a reset
    pub reset_at : (k : ℕ) → get_or index (reset_code g k) 0 ≡ index_in (regions n M) (close_up (reset_clocks (mask_bits n k) (view n g)))
    reset_at k =
        let x : Region = struct_of (close_up (reset_clocks (mask_bits max_clocks k) (view max_clocks g))) in
        let (p, u) = known_reset n M clocks ceiling k g x w refl in
        indexed_at n M index table x p ∙ ap (index_in (regions n M)) u
