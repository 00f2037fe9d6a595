-- The faces of a region are those of the region at the origin with its ranks, moved by its whole parts; so the codes of its faces are sums.
use Prim.Native.Nat.{ℕ, zero, suc, ◌+◌, ◌-◌, ◌*◌, ◌/◌, ◌%◌, ◌≤◌}
use native.Mathlib.Omega.{arith}
use native.Mathlib.Nat.{add-zero}
use mathlib.Core.Path.{◌≡◌, refl, sym, ap, ap₂, ◌∙◌}
use mathlib.Core.Bool.{Bool, true, false, cond}
use mathlib.Core.Logic.{◌↔◌}
use mathlib.Core.List.{List, [], ◌∷◌, Memᴰ}
use lib.Dec.{leb}
use lib.ListN.{replicate, take}
use Rattle.limits.specs.Limits.{max_clocks, rank_base}
use Rattle.theory.specs.Lists.{keep}
use Rattle.theory.specs.Pointwise.{none, more}
use Rattle.theory.specs.Region.{Clock, rounded_up, Fits, wholes, base, fits, lawful, face, regions}
use Rattle.theory.proofs.Lists.{map_law}
use Rattle.theory.proofs.Sorted.{keep_law}
use Rattle.theory.proofs.Region.{fits_law, face_law, lawful_law, corner_raise}
use Rattle.theory.proofs.RegionSteps.{face-fits}
use Rattle.theory.proofs.Enumeration.{regions_law, lawful-length}
use Rattle.region.specs.Limits.{Clocks, Ceiling}
use Rattle.region.specs.View.{view, struct_of, Padded, Small, Known}
use Rattle.region.specs.declared.Region.{Region}
use Rattle.region.proofs.Views.{three, view_struct, fits-view, face-view, lawful-view}
use Rattle.region.proofs.Known.{known_small}
use Rattle.region_steps.specs.Codes.{code_of}
use Rattle.region_corners.specs.Faces.{whole_code, rank_code, at_origin, face_codes}
use Rattle.region_corners.proofs.Moved.{moved, lawful-moved, moved-lawful, face-moved}

-- ---- a region and the one at the origin

abbrev parts : Region → List ℕ
parts g = g.w1 ∷ g.w2 ∷ g.w3 ∷ []

-- q moved back by the whole parts of p
abbrev back : Region → Region → Region
back p q = record { w1 = q.w1 - p.w1; w2 = q.w2 - p.w2; w3 = q.w3 - p.w3; r1 = q.r1; r2 = q.r2; r3 = q.r3 }

-- q moved on by them
abbrev on : Region → Region → Region
on p q = record { w1 = p.w1 + q.w1; w2 = p.w2 + q.w2; w3 = p.w3 + q.w3; r1 = q.r1; r2 = q.r2; r3 = q.r3 }

origin_moved : (p : Region) → Small p → moved (parts p) (at_origin (rank_code p)) ≡ view max_clocks p
origin_moved p s =
    let a : rank_code p / (rank_base * rank_base) ≡ p.r1 = omega (arith, s.r1, s.r2, s.r3) in
    let b : rank_code p / rank_base % rank_base ≡ p.r2 = omega (arith, s.r1, s.r2, s.r3) in
    let c : rank_code p % rank_base ≡ p.r3 = omega (arith, s.r1, s.r2, s.r3) in
    rw (a, b, c, add-zero p.w1, add-zero p.w2, add-zero p.w3)

one_up : (r : ℕ) → rounded_up 0 r ≤ 1
one_up zero = omega arith
one_up (suc r) = omega arith

origin_fits : (c : ℕ) → fits (at_origin c) (replicate max_clocks 1) ≡ true
origin_fits c = (fits_law (at_origin c) (replicate max_clocks 1)).1 (more (one_up (c / (rank_base * rank_base))) (more (one_up (c / rank_base % rank_base)) (more (one_up (c % rank_base)) none)))

-- ---- codes that the table lists

module _ (p : Region) (s : Small p) (M : ℕ) (l : lawful max_clocks M (view max_clocks p) ≡ true) where
  origin_lawful : lawful max_clocks 1 (at_origin (rank_code p)) ≡ true
  origin_lawful =
      moved-lawful max_clocks M max_clocks 1 (parts p) (at_origin (rank_code p)) (ap (lawful max_clocks M) (origin_moved p s) ∙ l) (origin_fits (rank_code p))

  listed_law : (x : ℕ) → Memᴰ x (face_codes (rank_code p))
      ↔ ((ys : List Clock) × (lawful max_clocks 1 ys ≡ true) × (face (at_origin (rank_code p)) ys ≡ true) × (x ≡ code_of (struct_of ys)))
  unfolding face_codes
  listed_law x =
      let f : List Clock → ℕ = λ ys. code_of (struct_of ys) in
      let o = at_origin (rank_code p) in
      let l = keep (face o) (regions max_clocks 1) in
      rw origin_lawful (
        λ m. let (ys, k, e) = (map_law f l x).0 m in
            let (a, b) = (keep_law (face o) ys (regions max_clocks 1)).0 k in
            (ys, (regions_law max_clocks 1 ys).0 a, b, e),
        λ (ys, a, b, e). (map_law f l x).1 (ys, (keep_law (face o) ys (regions max_clocks 1)).1 ((regions_law max_clocks 1 ys).1 a, b), e),
      )

  -- a code of the list, moved, is the code of a face
  listed_face : (x : ℕ) → Memᴰ x (face_codes (rank_code p))
      → (q : Region) × (lawful max_clocks M (view max_clocks q) ≡ true) × (face (view max_clocks p) (view max_clocks q) ≡ true) × (whole_code p + x ≡ code_of q)
  unfolding code_of
  listed_face x m =
      let (ys, a, b, e) = (listed_law x).0 m in
      let o = at_origin (rank_code p) in
      let g = struct_of ys in
      let v : view max_clocks g ≡ ys = view_struct max_clocks (record { low = omega arith; high = omega arith }) ys (lawful-length max_clocks 1 ys a) in
      let f : face (view max_clocks p) (view max_clocks (on p g)) ≡ true
      = ap (λ xs. face xs (view max_clocks (on p g))) (sym (origin_moved p s)) ∙ face-moved (parts p) o (view max_clocks g) ∙ ap (face o) v ∙ b in
      let c = (fits_law (view max_clocks p) (replicate max_clocks M)).1 ((lawful_law max_clocks M (view max_clocks p)).0 l).capped in (
        on p g,
        lawful-moved max_clocks 1 max_clocks M (parts p) (view max_clocks g) (ap (lawful max_clocks 1) v ∙ a) (face-fits (view max_clocks p) (view max_clocks (on p g)) (replicate max_clocks M) c f),
        f,
        omega arith,
      )

  -- the code of a face is a code of the list, moved
  face_listed : (q : Region) → lawful max_clocks M (view max_clocks q) ≡ true → face (view max_clocks p) (view max_clocks q) ≡ true
      → (x : ℕ) × Memᴰ x (face_codes (rank_code p)) × (whole_code p + x ≡ code_of q)
  unfolding code_of
  face_listed q k e =
      let (t, _, r) = (corner_raise (view max_clocks p) (wholes (view max_clocks q))).0 (((face_law (view max_clocks p) (view max_clocks q)).0 e).some_of (wholes (view max_clocks q)) base) in
      let a : cond (leb t p.r1) (p.w1 + 1) p.w1 ≡ q.w1 = cc in
      let b : cond (leb t p.r2) (p.w2 + 1) p.w2 ≡ q.w2 = cc in
      let c : cond (leb t p.r3) (p.w3 + 1) p.w3 ≡ q.w3 = cc in
      let a : p.w1 + (q.w1 - p.w1) ≡ q.w1 = omega (arith, at_least (leb t p.r1) p.w1) in
      let b : p.w2 + (q.w2 - p.w2) ≡ q.w2 = omega (arith, at_least (leb t p.r2) p.w2) in
      let c : p.w3 + (q.w3 - p.w3) ≡ q.w3 = omega (arith, at_least (leb t p.r3) p.w3) in
      let o = at_origin (rank_code p) in
      let g = back p q in
      let u : moved (parts p) (view max_clocks g) ≡ view max_clocks q = rw (a, b, c) in
      let f : face o (view max_clocks g) ≡ true = sym (face-moved (parts p) o (view max_clocks g)) ∙ ap₂ face (origin_moved p s) u ∙ e in
      let d : lawful max_clocks 1 (view max_clocks g) ≡ true
      = moved-lawful max_clocks M max_clocks 1 (parts p) (view max_clocks g) (ap (lawful max_clocks M) u ∙ k) (face-fits o (view max_clocks g) (replicate max_clocks 1) (origin_fits (rank_code p)) f) in
      (code_of g, (listed_law (code_of g)).1 (view max_clocks g, d, f, refl), omega arith)
    where
      at_least : (b : Bool) (w : ℕ) → w ≤ cond b (w + 1) w
      at_least true w = omega arith
      at_least false w = omega arith

-- ---- for a region of n clocks

-- three limits for n clocks: those past n are 0
abbrev limits : ℕ → ℕ → List ℕ
limits n M = M ∷ cond (leb 2 n) M 0 ∷ cond (leb 3 n) M 0 ∷ []

nought : (w r : ℕ) → rounded_up w r ≤ 0 → (w ≡ 0) × (r ≡ 0)
nought w zero h = (omega arith, refl)
nought w (suc r) h = absurd (omega arith)

limits_padded : (n : ℕ) → Clocks n → (M : ℕ) (g : Region) → fits (view max_clocks g) (limits n M) ≡ true → struct_of (view n g) ≡ g
limits_padded n k M g =
    three (λ n. fits (view max_clocks g) (limits n M) ≡ true → struct_of (view n g) ≡ g)
    (λ e. one ((fits_law (view max_clocks g) (limits 1 M)).0 e))
    (λ e. two ((fits_law (view max_clocks g) (limits 2 M)).0 e))
    (λ e. refl)
    n k
  where
    one : Fits (view max_clocks g) (M ∷ 0 ∷ 0 ∷ []) → struct_of (view 1 g) ≡ g
    one (more _ (more a (more b none))) =
        let (c, d) = nought g.w2 g.r2 a in
        let (e, f) = nought g.w3 g.r3 b in
        λ i. record { w1 = g.w1; w2 = sym c i; w3 = sym e i; r1 = g.r1; r2 = sym d i; r3 = sym f i }

    two : Fits (view max_clocks g) (M ∷ M ∷ 0 ∷ []) → struct_of (view 2 g) ≡ g
    two (more _ (more _ (more b none))) =
        let (e, f) = nought g.w3 g.r3 b in
        λ i. record { w1 = g.w1; w2 = g.w2; w3 = sym e i; r1 = g.r1; r2 = g.r2; r3 = sym f i }

module _ (n M : ℕ) (k : Clocks n) (h : Ceiling M) (p : Region) (w : Known n M p) where
  three_lawful : (q : Region) → Known n M q → lawful max_clocks M (view max_clocks q) ≡ true
  three_lawful q v = lawful-view n k M q v.padded ∙ v.lawful

  -- a face of a known region is known
  face_known : (q : Region) → lawful max_clocks M (view max_clocks q) ≡ true → face (view max_clocks p) (view max_clocks q) ≡ true → Known n M q
  face_known q l e =
      let c : fits (view n p) (replicate n M) ≡ true = (fits_law (view n p) (replicate n M)).1 ((lawful_law n M (view n p)).0 w.lawful).capped in
      let f : fits (view max_clocks p) (limits n M) ≡ true
      = fits-view n k p w.padded M (cond (leb 2 n) M 0) (cond (leb 3 n) M 0)
      ∙ three (λ n. fits (view n p) (take n (limits n M)) ≡ fits (view n p) (replicate n M)) refl refl refl n k ∙ c in
      let d : Padded n q = record { same = limits_padded n k M q (face-fits (view max_clocks p) (view max_clocks q) (limits n M) f e) } in
      record { padded = d; lawful = sym (lawful-view n k M q d) ∙ l }

  -- the faces of p, by their codes
  pub code_face : (x : ℕ) → Memᴰ x (face_codes (rank_code p))
      → (q : Region) × Known n M q × (face (view n p) (view n q) ≡ true) × (whole_code p + x ≡ code_of q)
  code_face x m =
      let (q, l, e, c) = listed_face p (known_small n M k h p w) M (three_lawful p w) x m in
      let v = face_known q l e in
      (q, v, sym (face-view n k p q w.padded v.padded) ∙ e, c)

  pub face_code : (q : Region) → Known n M q → face (view n p) (view n q) ≡ true
      → (x : ℕ) × Memᴰ x (face_codes (rank_code p)) × (whole_code p + x ≡ code_of q)
  face_code q v e =
      face_listed p (known_small n M k h p w) M (three_lawful p w) q (three_lawful q v) (face-view n k p q w.padded v.padded ∙ e)
