-- The entries of the table for n clocks at ceiling M are the regions of n clocks at ceiling M, in order: both lists ascend and have the same members.
use Prim.Native.Nat.{ℕ, zero, suc, ◌+◌, ◌≤◌, ◌<◌}
use native.Mathlib.Omega.{arith}
use native.Mathlib.Nat.{le_trans}
use mathlib.Core.Path.{◌≡◌, refl, sym, ap, ap₂, ◌∙◌}
use mathlib.Core.Bool.{Bool, true}
use mathlib.Core.Logic.{◌⊎◌, inl, inr}
use mathlib.Core.List.Memᴰ
use mathlib.Core.List.{List, [], ◌∷◌, Memᴰ}
use lib.Dec.{leb}
use lib.ListN.{take, replicate}
use Rattle.theory.specs.Lists.{every, keep, down}
use Rattle.theory.specs.Region.{Clock, rounded_up, has_rank, top_rank, fits, lawful, regions}
use Rattle.theory.specs.Enumeration.{none, more}
use Rattle.theory.proofs.Below.{and_intro, and_left, and_right, leb↔}
use Rattle.theory.proofs.Lists.{map_law}
use Rattle.theory.proofs.Sorted.{keep_law, sorted_keep}
use Rattle.theory.proofs.Enumeration.{regions_law, lawful-length}
use Rattle.limits.specs.Limits.{max_clocks, max_ceiling}
use Rattle.region.specs.Limits.{Clocks, Ceiling}
use Rattle.region.specs.View.{view, struct_of, Padded}
use Rattle.region.specs.Packed.{pack, pack_clocks}
use Rattle.region.specs.declared.Region.{Region}
use Rattle.region.proofs.Views.{three, view_struct, padded_struct, fits-view, lawful-view}
use Rattle.region.proofs.Packing.{unpack-pack, lawful_small}
use Rattle.region_table.specs.Table.{packed_regions, packed, limits_of, chosen}
use Rattle.region_table.specs.Lookup.{Increasing}
use Rattle.region_table.proofs.Packed.{packed_increasing}

-- ---- ascending lists with the same members are the same

abbrev In : List ℕ → List ℕ → Type 0
In a b = (x : ℕ) → Memᴰ x a → Memᴰ x b

increasing_same : {a b : List ℕ} → Increasing a → Increasing b → In a b → In b a → a ≡ b
increasing_same none none p q = refl
increasing_same none (more {x = y} g t) p q = absurd (Memᴰ.not-nil (q y (Memᴰ.head refl)))
increasing_same (more {x = x} f s) none p q = absurd (Memᴰ.not-nil (p x (Memᴰ.head refl)))
increasing_same (more {x = x} {l = l} f s) (more {x = y} {l = r} g t) p q =
    let e : x ≡ y = heads (Memᴰ.cases_cons (p x (Memᴰ.head refl))) (Memᴰ.cases_cons (q y (Memᴰ.head refl))) in
    ap₂ ◌∷◌ e
    (increasing_same s t
    (λ z m. let h = f z m in rest e h (Memᴰ.cases_cons (p z (Memᴰ.tail m))))
    (λ z m. let h = g z m in rest (sym e) h (Memᴰ.cases_cons (q z (Memᴰ.tail m)))))
  where
    heads : (x ≡ y) ⊎ Memᴰ x r → (y ≡ x) ⊎ Memᴰ y l → x ≡ y
    heads (inl e) d = e
    heads (inr m) (inl e) = sym e
    heads (inr m) (inr n) = absurd (omega (arith, g x m, f y n))

    -- what stands behind the first of one list stands behind the first of the other
    rest : {a b z : ℕ} {k : List ℕ} → a ≡ b → a < z → (z ≡ b) ⊎ Memᴰ z k → Memᴰ z k
    rest e h (inl d) = absurd (omega arith)
    rest e h (inr n) = n

-- ---- the limits of n clocks at ceiling M

ranked : List Clock → Bool
ranked xs = every (has_rank xs) (down (top_rank xs))

lawful_parts : (n M : ℕ) (xs : List Clock) → lawful n M xs ≡ true → (fits xs (replicate n M) ≡ true) × (ranked xs ≡ true)
unfolding lawful ranked
lawful_parts n M xs t = (and_left (fits xs (replicate n M)) _ t, and_right (fits xs (replicate n M)) _ t)

parts_lawful : (n M : ℕ) (xs : List Clock) → fits xs (replicate n M) ≡ true → ranked xs ≡ true → lawful n M xs ≡ true
unfolding lawful ranked
parts_lawful n M xs f r = and_intro (fits xs (replicate n M)) _ f r

-- a region fits under a higher ceiling
fits_higher : (M N : ℕ) → M ≤ N → (n : ℕ) (xs : List Clock) → fits xs (replicate n M) ≡ true → fits xs (replicate n N) ≡ true
unfolding fits
fits_higher M N h zero [] t = t
fits_higher M N h zero (x ∷ xs) t = t
fits_higher M N h (suc n) [] t = t
fits_higher M N h (suc n) (x ∷ xs) t =
    let u = rounded_up x.whole x.rank in
    and_intro (leb u N) _ ((leb↔ u N).1 (le_trans ((leb↔ u M).0 (and_left (leb u M) _ t)) h))
    (fits_higher M N h n xs (and_right (leb u M) _ t))

-- a clock within the limit 0 is 0
none_above : (w r : ℕ) → leb (rounded_up w r) 0 ≡ true → (w ≡ 0) × (r ≡ 0)
none_above w zero t = (omega (arith, (leb↔ w 0).0 t), refl)
none_above w (suc r) t = absurd (omega (arith, (leb↔ (w + 1) 0).0 t))

chosen_padded : (n M : ℕ) → Clocks n → (g : Region) → fits (view max_clocks g) (limits_of n M) ≡ true → struct_of (view n g) ≡ g
unfolding fits
chosen_padded n M k g t = three (λ n. fits (view max_clocks g) (limits_of n M) ≡ true → struct_of (view n g) ≡ g) one two (λ t. refl) n k t
  where
    one : fits (view max_clocks g) (limits_of 1 M) ≡ true → struct_of (view 1 g) ≡ g
    one t =
        let u = and_right (leb (rounded_up g.w1 g.r1) M) _ t in
        let (a, b) = none_above g.w2 g.r2 (and_left (leb (rounded_up g.w2 g.r2) 0) _ u) in
        let v = and_right (leb (rounded_up g.w2 g.r2) 0) _ u in
        let (c, d) = none_above g.w3 g.r3 (and_left (leb (rounded_up g.w3 g.r3) 0) _ v) in
        λ i. record { w1 = g.w1; w2 = sym a i; w3 = sym c i; r1 = g.r1; r2 = sym b i; r3 = sym d i }

    two : fits (view max_clocks g) (limits_of 2 M) ≡ true → struct_of (view 2 g) ≡ g
    two t =
        let u = and_right (leb (rounded_up g.w1 g.r1) M) _ t in
        let v = and_right (leb (rounded_up g.w2 g.r2) M) _ u in
        let (c, d) = none_above g.w3 g.r3 (and_left (leb (rounded_up g.w3 g.r3) 0) _ v) in
        λ i. record { w1 = g.w1; w2 = g.w2; w3 = sym c i; r1 = g.r1; r2 = g.r2; r3 = sym d i }

-- ---- the table's numbers for n clocks at ceiling M

pub all_clocks : Clocks max_clocks
all_clocks = record { low = omega arith; high = omega arith }

pub full_ceiling : Ceiling max_ceiling
full_ceiling = record { low = omega arith; high = omega arith }

module _ (n M : ℕ) (k : Clocks n) (h : Ceiling M) where
  limits_cut : take n (limits_of n M) ≡ replicate n M
  limits_cut = three (λ n. take n (limits_of n M) ≡ replicate n M) refl refl refl n k

  fits_chosen : (g : Region) → Padded n g → fits (view max_clocks g) (limits_of n M) ≡ fits (view n g) (replicate n M)
  fits_chosen g p = fits-view n k g p M _ _ ∙ ap (fits (view n g)) limits_cut

  -- a region of all clocks that is within the limits is one of n clocks
  chosen_region : (xs : List Clock) → lawful max_clocks max_ceiling xs ≡ true → chosen n M (pack_clocks xs) ≡ true
      → (ys : List Clock) × (lawful n M ys ≡ true) × (pack_clocks xs ≡ pack_clocks ys)
  unfolding chosen
  chosen_region xs t c =
      let g = struct_of xs in
      let v : view max_clocks g ≡ xs = view_struct max_clocks all_clocks xs (lawful-length max_clocks max_ceiling xs t) in
      let f : fits (view max_clocks g) (limits_of n M) ≡ true
      = ap (λ (g : Region). fits (view max_clocks g) (limits_of n M)) (sym (unpack-pack g (lawful_small max_clocks max_ceiling all_clocks full_ceiling xs t)))
      ∙ c in
      let p = chosen_padded n M k g f in
      let w : Padded n g = record { same = p } in
      let l : lawful n max_ceiling (view n g) ≡ true = sym (lawful-view n k max_ceiling g w) ∙ ap (lawful max_clocks max_ceiling) v ∙ t in (
        view n g,
        parts_lawful n M (view n g) (sym (fits_chosen g w) ∙ f) (lawful_parts n max_ceiling (view n g) l).1,
        ap pack (sym p),
      )

  -- a region of n clocks, read as one of all clocks
  region_chosen : (ys : List Clock) → lawful n M ys ≡ true
      → (lawful max_clocks max_ceiling (view max_clocks (struct_of ys)) ≡ true) × (chosen n M (pack_clocks ys) ≡ true)
  unfolding chosen
  region_chosen ys t =
      let g = struct_of ys in
      let e = lawful-length n M ys t in
      let w = padded_struct n k ys e in
      let v : view n g ≡ ys = view_struct n k ys e in
      let (f, r) = lawful_parts max_clocks M (view max_clocks g) (lawful-view n k M g w ∙ ap (lawful n M) v ∙ t) in (
        parts_lawful max_clocks max_ceiling (view max_clocks g) (fits_higher M max_ceiling h.high max_clocks (view max_clocks g) f) r,
        ap (λ (g : Region). fits (view max_clocks g) (limits_of n M)) (unpack-pack g (lawful_small n M k h ys t))
            ∙ fits_chosen g w
            ∙ ap (λ (xs : List Clock). fits xs (replicate n M)) v
            ∙ (lawful_parts n M ys t).0,
      )

  pub chosen_law : keep (chosen n M) packed ≡ packed_regions n M
  unfolding packed_regions
  chosen_law =
      increasing_same (sorted_keep (chosen n M) (packed_increasing max_clocks max_ceiling all_clocks full_ceiling)) (packed_increasing n M k h)
      (λ p m. let (a, c) = (keep_law (chosen n M) p packed).0 m in
      let (xs, i, e) = (map_law pack_clocks (regions max_clocks max_ceiling) p).0 a in
      let (ys, t, q) = chosen_region xs ((regions_law max_clocks max_ceiling xs).0 i) (rw e at c) in
      (map_law pack_clocks (regions n M) p).1 (ys, (regions_law n M ys).1 t, e ∙ q))
      (λ p m. let (ys, i, e) = (map_law pack_clocks (regions n M) p).0 m in
      let (t, c) = region_chosen ys ((regions_law n M ys).0 i) in
      (keep_law (chosen n M) p packed).1 (
        (map_law pack_clocks (regions max_clocks max_ceiling) p).1 (view max_clocks (struct_of ys), (regions_law max_clocks max_ceiling _).1 t, e),
        rw e c,
      ))
