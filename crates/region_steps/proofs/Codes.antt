-- Codes: a small region is what its code says, so the regions of n clocks at ceiling M have codes of their own.
use Prim.Native.Nat.{ℕ, zero, suc, ◌+◌, ◌*◌, ◌/◌, ◌%◌, ◌<◌}
use native.Mathlib.Omega.{arith}
use mathlib.Core.Path.{◌≡◌, refl, sym, ap, ◌∙◌}
use mathlib.Core.Bool.{true, cond}
use mathlib.Core.List.{List, [], ◌∷◌}
use lib.Dec.{ltb}
use lib.ListN.{length, get_or}
use Rattle.theory.specs.Lists.{every, from}
use Rattle.theory.specs.Region.{clock, has_rank, ranks_upto, reset_clocks, close_up, regions}
use Rattle.theory.specs.StateGraph.{index_in}
use Rattle.theory.proofs.Below.{ltb↔}
use Rattle.theory.proofs.Lists.{every_law}
use Rattle.theory.proofs.Sorted.{from_law}
use Rattle.theory.proofs.Enumeration.{region_at_lem, index_at, index_once}
use Rattle.region.specs.Limits.{Clocks, Ceiling}
use Rattle.region.specs.View.{view, struct_of, Small, mask_bits, Known}
use Rattle.region.specs.declared.Region.{Region}
use Rattle.region.proofs.Views.{closes}
use Rattle.region.proofs.Packing.{lawful_small}
use Rattle.region.proofs.Known.{known_struct}
use Rattle.limits.specs.Limits.{max_clocks, whole_base, rank_base, rank_code_count, code_count}
use Rattle.region_steps.specs.Codes.{whole_code, rank_code, code_of, reset_code, closed_ranks, closed_code}
use Rattle.region_steps.specs.Tables.{Indexed}
use Rattle.region_steps.proofs.Index.{index_own}

-- the region of a code
abbrev decode : ℕ → Region
decode c =
    record {
      w1 = c / (whole_base * whole_base * rank_code_count);
      w2 = c / (whole_base * rank_code_count) % whole_base;
      w3 = c / rank_code_count % whole_base;
      r1 = c / (rank_base * rank_base) % rank_base;
      r2 = c / rank_base % rank_base;
      r3 = c % rank_base;
    }

module _ (g : Region) (s : Small g) where
  pub code_below : code_of g < code_count
  unfolding code_of
  code_below = omega (arith, s.w1, s.w2, s.w3, s.r1, s.r2, s.r3)

  decode_code : decode (code_of g) ≡ g
  unfolding code_of
  decode_code = λ i. record { w1 = w1 i; w2 = w2 i; w3 = w3 i; r1 = r1 i; r2 = r2 i; r3 = r3 i }
    where
      w1 : (decode (code_of g)).w1 ≡ g.w1
      w1 = omega (arith, s.w1, s.w2, s.w3, s.r1, s.r2, s.r3)

      w2 : (decode (code_of g)).w2 ≡ g.w2
      w2 = omega (arith, s.w1, s.w2, s.w3, s.r1, s.r2, s.r3)

      w3 : (decode (code_of g)).w3 ≡ g.w3
      w3 = omega (arith, s.w1, s.w2, s.w3, s.r1, s.r2, s.r3)

      r1 : (decode (code_of g)).r1 ≡ g.r1
      r1 = omega (arith, s.w1, s.w2, s.w3, s.r1, s.r2, s.r3)

      r2 : (decode (code_of g)).r2 ≡ g.r2
      r2 = omega (arith, s.w1, s.w2, s.w3, s.r1, s.r2, s.r3)

      r3 : (decode (code_of g)).r3 ≡ g.r3
      r3 = omega (arith, s.w1, s.w2, s.w3, s.r1, s.r2, s.r3)

module _ (n M : ℕ) where
  -- two regions with one code are one
  pub code_once : Clocks n → Ceiling M → (i j : ℕ) → i < length (regions n M) → j < length (regions n M)
      → code_of (struct_of (get_or (regions n M) i [])) ≡ code_of (struct_of (get_or (regions n M) j [])) → i ≡ j
  code_once k h i j a b e =
      let xs = get_or (regions n M) i [] in
      let ys = get_or (regions n M) j [] in
      let t = region_at_lem n M i a in
      let u = region_at_lem n M j b in
      let g : struct_of xs ≡ struct_of ys
      = sym (decode_code (struct_of xs) (lawful_small n M k h xs t)) ∙ ap decode e ∙ decode_code (struct_of ys) (lawful_small n M k h ys u) in
      index_once n M i j a b (sym (known_struct n M k h xs t).1 ∙ ap (view n) g ∙ (known_struct n M k h ys u).1)

  -- at the code of a region stands its index
  pub indexed_at : (index : List ℕ) → Indexed n M index → (g : Region) → Known n M g → get_or index (code_of g) 0 ≡ index_in (regions n M) (view n g)
  indexed_at index v g w =
      let (i, h, e) = index_at n M (view n g) w.lawful in
      let c : code_of (struct_of (get_or (regions n M) i [])) ≡ code_of g = ap (λ xs. code_of (struct_of xs)) e ∙ ap code_of w.padded.same in
      ap (λ c. get_or index c 0) (sym c) ∙ v.holds i h ∙ sym (index_own n M i h) ∙ ap (index_in (regions n M)) e

-- ---- a reset by codes: the whole parts that are kept, and the ranks closed up by their code

all_below : every (λ c. ltb (closed_code c) rank_code_count) (from 0 rank_code_count) ≡ true
unfolding code_of closed_ranks
all_below = refl

pub closed_below : (c : ℕ) → c < rank_code_count → closed_code c < rank_code_count
closed_below c h = (every_law (λ c. ltb↔ (closed_code c) rank_code_count) (from 0 rank_code_count)).0 all_below c ((from_law 0 rank_code_count c).1 (omega arith, h))

-- ranks alone count
upto_ranks : (u v w a b c x : ℕ)
    → ranks_upto (clock u a ∷ clock v b ∷ clock w c ∷ []) x ≡ ranks_upto (clock 0 a ∷ clock 0 b ∷ clock 0 c ∷ []) x
upto_ranks u v w a b c zero = refl
upto_ranks u v w a b c (suc x) =
    ap (λ m. cond (has_rank (clock 0 a ∷ clock 0 b ∷ clock 0 c ∷ []) (suc x)) (m + 1) m) (upto_ranks u v w a b c x)

closed_parts : (g : Region) → Small g → whole_code g + closed_code (rank_code g) ≡ code_of (struct_of (close_up (view max_clocks g)))
unfolding code_of closed_ranks
closed_parts g s =
    let up = upto_ranks g.w1 g.w2 g.w3 g.r1 g.r2 g.r3 in
    ap (λ c. whole_code g + c) digits ∙ omega (arith, up g.r1, up g.r2, up g.r3)
  where
    d1 : rank_code g / (rank_base * rank_base) ≡ g.r1
    d1 = omega (arith, s.r1, s.r2, s.r3)

    d2 : rank_code g / rank_base % rank_base ≡ g.r2
    d2 = omega (arith, s.r1, s.r2, s.r3)

    d3 : rank_code g % rank_base ≡ g.r3
    d3 = omega (arith, s.r1, s.r2, s.r3)

    digits : closed_code (rank_code g) ≡ closed_ranks g.r1 g.r2 g.r3
    digits = λ i. closed_ranks (d1 i) (d2 i) (d3 i)

-- the struct x is g with the clocks of the mask at 0
pub reset_parts : (mask : ℕ) (g x : Region) → Small x → x ≡ struct_of (reset_clocks (mask_bits max_clocks mask) (view max_clocks g))
    → whole_code x + closed_code (rank_code x) ≡ reset_code g mask
reset_parts mask g x s e =
    closed_parts x s ∙ ap (λ y. code_of (struct_of (close_up (view max_clocks y)))) e ∙ ap code_of (closes (mask_bits max_clocks mask) g)
